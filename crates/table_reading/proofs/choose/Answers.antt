-- `table_reading::choose` meets its contract: the three cases of the literal rule at the place found.
-- Assumes nothing.
use Prim.Native.Nat.{ℕ, ◌+◌, ◌<◌}
use mathlib.Core.Path.{◌≡◌, refl, sym, ap, ◌∙◌}
use native.Mathlib.Omega.{arith}
use lib.ListN.{length}
use Rattle.std.specs.Prelude.{Result, Ok}
use Rattle.image.specs.Image.{total_of, entry_at}
use Rattle.fitting.specs.Reading.{apply, chosen}
use Rattle.literals.specs.Places.{literal_entry}
use Rattle.literals.proofs.Places.{target-long}
use Rattle.literals.proofs.Ends.{ended_no, ended_yes, ended_at}
use Rattle.table_reading.specs.declared.Chosen.{Chosen}
use Rattle.table_reading.specs.declared.Chosen.TheVariants.{Rule}
use Rattle.table_reading.specs.declared.Unusable.{Unusable}
use Rattle.table_reading.proofs.Choosing.{found_none, found_some, none_shared, place_past, place_unfit, place_fits}
use Rattle.table_reading.proofs.choose.Goals as goal

same-rule : (p n k q m l : ℕ) → ◌≡◌ {A = Result Chosen Unusable} (Ok (Rule p n k)) (Ok (Rule q m l)) → (p ≡ q) × ((n ≡ m) × (k ≡ l))
same-rule p n k q m l e = (cc, (cc, cc))

pub returns-in_default : goal.returns-in_default
returns-in_default c = record {
  is = sym (none_shared c.args.image.now c.args.sets.now c.args.s c.args.t c.args.frame.now c.args.i (found_none _ (sym c.in_default.ensures)));
  inside = λ p n k e. let z : ◌≡◌ {A = ℕ} 0 1 = cc in omega arith;
}

pub returns-then-total-place : goal.returns-then-total-place
returns-then-total-place c = record {
  is =
      sym (place_past c.args.image.now c.args.sets.now c.args.s c.args.t c.args.frame.now c.args.i c.requires.2 c.in-Some.place (found_some _ _ (sym c.in-Some.ensures))
      (omega (arith, c.requires.3)));
  inside = λ p n k e. let z : ◌≡◌ {A = ℕ} 0 1 = cc in omega arith;
}

pub returns-then-end-eq0 : goal.returns-then-end-eq0
returns-then-end-eq0 c = record {
  is =
      sym (place_unfit c.args.image.now c.args.sets.now c.args.s c.args.t c.args.frame.now c.args.i c.requires.2 c.in-Some.place (found_some _ _ (sym c.in-Some.ensures))
      (omega (arith, c.requires.3)) (ended_no _ (omega (arith, c.requires.4)) _ _ c.place_end-end.ensures c.if-end-eq0.true));
  inside = λ p n k e. let z : ◌≡◌ {A = ℕ} 0 1 = cc in omega arith;
}

-- the literal rule at the place found is an expansion of the numbered rule that is told,
-- so that its target is as long
pub returns : goal.returns
returns c = let owner = c.owner_at-rule in
    let end = c.place_end-end in
    let image = c.args.image.now in
    let l : c.in-Some.place < total_of image = omega (arith, c.requires.3) in
    let fit = ended_yes (c.args.i + length (literal_entry image c.in-Some.place).rule.target) (omega (arith, c.requires.4)) _ _ end.ensures c.if-end-eq0.false in
    let long = target-long image c.requires.2 c.in-Some.place l owner.result owner.ensures.0 _ refl in
    record {
      is =
          ap (λ (n : ℕ). chosen (apply n (entry_at image owner.result))) c.count_shared.ensures.0
          ∙ sym (place_fits image c.args.sets.now c.args.s c.args.t c.args.frame.now c.args.i c.requires.2 c.in-Some.place (found_some _ _ (sym c.in-Some.ensures))
          l fit owner.result owner.ensures.0);
      inside = λ p n k e.
          let d = same-rule _ _ _ p n k e in (
            omega (arith, d.0, owner.ensures.1),
            (
              omega (arith, d.1.0, c.count_shared.ensures.1),
              sym d.1.1 ∙ (ended_at _ _ _ end.ensures fit ∙ ap (λ (m : ℕ). c.args.i + m) (long ∙ ap (λ (q : ℕ). length (entry_at image q).rule.target) d.0)),
            ),
          );
    }
