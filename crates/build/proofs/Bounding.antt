-- The symbols of both sides' patterns, summed over the literal rules, bound the states.
-- Assumes nothing.
use mathlib.Core.Path.{◌≡◌, refl, ap, ◌∙◌}
use Prim.Native.Nat.{ℕ, ◌+◌, ◌*◌, ◌≤◌, ◌<◌}
use native.Mathlib.Omega.{arith}
use native.Mathlib.Numerals.{add-one}
use mathlib.Core.Bool.{Bool, true, false}
use mathlib.Core.List.{List, [], ◌∷◌, ◌++◌, map, map-append}
use lib.ListN.{length, take}
use lib.Seq.{take-suc, take_all}
use Rattle.tables.specs.States.{left_states, right_states}
use Rattle.rules.specs.Limits.{max_context, max_pattern}
use Rattle.image.specs.State.{no_entry}
use Rattle.rules.specs.Shape.{Entry}
use Rattle.image.specs.Image.{valid, total_of, literals_of}
use Rattle.image.proofs.Literals.{total_is, literals_few}
use Rattle.literals.specs.Places.{literal_entry}
use Rattle.fitting.specs.Fitting.{Str}
use Rattle.tables.proofs.Count.{total, states_total}
use Rattle.patterns.specs.Sides.{side_of, pattern_in, side_table}
use Rattle.patterns.proofs.Symbols.{both_long, left-most, target-most, right-most}

total_snoc : (l : List Str) (p : Str) → total (l ++ (p ∷ [])) ≡ total l + length p
total_snoc [] p = omega arith
total_snoc (x ∷ l) p = let e = total_snoc l p in omega arith

module _ (d : List ℕ) where
  -- the symbols of the patterns of the first i rules
  abbrev symbols : Bool → ℕ → ℕ
  symbols right i = total (map (side_of right) (take i (literals_of d)))

  -- m is 2, and the symbols of the first i rules
  pub record Bounding (m i : ℕ) : Type 0 where
    pub reached : i ≤ total_of d
    pub is : m ≡ 2 + (symbols false i + symbols true i)
    pub few : m ≤ 2 + (max_context + max_pattern) * i

  pub begin : Bounding 2 0
  begin = record { reached = omega arith; is = refl; few = omega arith }

  symbols-next : valid d ≡ true → (right : Bool) (i : ℕ) → i < total_of d → symbols right (i + 1) ≡ symbols right i + length (pattern_in d right i)
  symbols-next ok right i h =
      let es = literals_of d in
      ap (λ (k : ℕ). symbols right k) (add-one i)
      ∙ ap (λ (l : List Entry). total (map (side_of right) l)) (take-suc es i no_entry (omega (arith, total_is d ok)))
      ∙ ap total (map-append (side_of right) (take i es) (literal_entry d i ∷ []))
      ∙ total_snoc (map (side_of right) (take i es)) (pattern_in d right i)

  module _ (ok : valid d ≡ true) (m i : ℕ) (b : Bounding m i) where
    -- one rule more, whose fields have x, y and z symbols
    pub next : i < total_of d → (x y z : ℕ) → x ≡ length (literal_entry d i).rule.left → y ≡ length (literal_entry d i).rule.target → z ≡ length (literal_entry d i).rule.right
        → Bounding (m + (x + y + z)) (i + 1)
    next h x y z e f g =
        record {
          reached = omega arith;
          is = omega (arith, b.is, symbols-next ok false i h, symbols-next ok true i h, both_long d ok i h);
          few = omega (arith, b.few, left-most d ok i h, target-most d ok i h, right-most d ok i h);
        }

    pub finished : total_of d ≤ i → ((side_table d false).count + (side_table d true).count ≤ m) × (m ≤ left_states + right_states)
    finished h = (omega (arith, all false, all true, b.is), omega (arith, b.few, b.reached, total_is d ok, literals_few d ok))
      where
        all : (right : Bool) → (side_table d right).count ≤ 1 + symbols right i
        all right =
            let e : symbols right i ≡ total (map (side_of right) (literals_of d)) =
            ap (λ (l : List Entry). total (map (side_of right) l)) (take_all i (literals_of d) (omega (arith, total_is d ok))) in
            omega (arith, states_total (map (side_of right) (literals_of d)))
