-- `table_reading::read_letters` meets its contract, by the loop invariant `Gone`: the rules applied so far, then the reading from i, are the whole reading.
-- Assumes nothing.
use Prim.Native.Nat.{ℕ, ◌+◌}
use mathlib.Core.Path.{◌≡◌, refl, sym, ap, ◌∙◌, subst}
use mathlib.Core.List.{List}
use native.Mathlib.Omega.{arith}
use lib.ListN.{set, length-set}
use Rattle.image.proofs.Tests.{valid_long, valid_count}
use Rattle.image.proofs.Entries.{entry_shaped}
use Rattle.std.specs.Prelude.{Ok}
use Rattle.fitting.specs.Reading.{nothing}
use Rattle.table_reading.specs.Letters.{choice_of}
use Rattle.table_reading.specs.declared.Chosen.{Chosen}
use Rattle.table_reading.specs.declared.Chosen.TheVariants.{Rule, Nothing}
use Rattle.table_reading.proofs.Choosing.{Gone, begin, by_states, next, unusable_here, none_here, done}
use Rattle.table_reading.proofs.read_letters.Goals as goal

-- an answer that is no rule
none_left : (image : List ℕ) (x : Chosen) → ((p n k : ℕ) → x ≡ Rule p n k → ⊥) → choice_of image (Ok x) ≡ nothing
none_left image (Rule p n k) r = absurd (r p n k refl)
none_left image Nothing r = refl

pub literal_total-total-requires : goal.literal_total-total-requires
literal_total-total-requires c = valid_long c.args.image.now c.requires.0

pub loop-i-init : goal.loop-i-init
loop-i-init c = let a = c.args in
    (begin a.image.now a.sets.now a.right_sets a.left.now a.right.now a.frame.now c.requires.0 a.parts.now c.requires.4, refl)

pub bounds-left-i : goal.bounds-left-i
bounds-left-i c = omega (arith, c.requires.3.left-room)

pub overflow_mul-s : goal.overflow_mul-s
overflow_mul-s c = omega (arith, c.from-s.ensures, c.requires.3.lefts c.loop-i.i (omega (arith, c.loop-i.invariant.0.behind)) (omega arith))

pub bounds-right-i : goal.bounds-right-i
bounds-right-i c = omega (arith, c.requires.3.right-room)

pub overflow_mul-t : goal.overflow_mul-t
overflow_mul-t c = omega (arith, c.from.ensures, c.requires.3.rights c.loop-i.i (omega (arith, c.loop-i.invariant.0.behind)) (omega arith))

pub overflow_add-t : goal.overflow_add-t
overflow_add-t c = omega (arith, c.from.ensures, c.requires.3.rights c.loop-i.i (omega (arith, c.loop-i.invariant.0.behind)) (omega arith))

pub choose-requires : goal.choose-requires
choose-requires c = let l = c.requires.3.lefts c.loop-i.i (omega (arith, c.loop-i.invariant.0.behind)) (omega arith) in
    let r = c.requires.3.rights c.loop-i.i (omega (arith, c.loop-i.invariant.0.behind)) (omega arith) in
    (omega (arith, c.from-s.ensures), omega (arith, c.from.ensures), c.requires.0, c.literal_total-total.ensures.0, omega (arith, c.loop-i.invariant.0.behind), omega arith)

pub returns-in_default : goal.returns-in_default
returns-in_default c = let a = c.args in
    let k = c.loop-i in
    unusable_here a.image.now a.sets.now a.right_sets a.left.now a.right.now a.frame.now c.requires.0 k.parts k.count k.i k.invariant.0 (omega arith)
    (sym (by_states a.image.now a.sets.now a.right_sets a.left.now a.right.now a.frame.now k.i _ _ c.from-s.ensures c.from.ensures _ c.in_default.ensures))

pub returns-in_default-choice : goal.returns-in_default-choice
returns-in_default-choice c = let a = c.args in
    let k = c.loop-i in
    none_here a.image.now a.sets.now a.right_sets a.left.now a.right.now a.frame.now c.requires.0 k.parts k.count k.i k.invariant.0 (omega arith)
    (sym (by_states a.image.now a.sets.now a.right_sets a.left.now a.right.now a.frame.now k.i _ _ c.from-s.ensures c.from.ensures _ c.in-Ok.ensures) ∙ none_left a.image.now _ c.in_default-choice.not-Rule)

pub part_of-requires : goal.part_of-requires
part_of-requires c = let h = c.in-Ok.ensures.inside _ _ _ (ap Ok c.in-Rule.is) in
    (omega (arith, h.0, valid_count c.args.image.now c.requires.0), omega (arith, h.1.0))

pub offset_bounds-parts-count : goal.offset_bounds-parts-count
offset_bounds-parts-count c = omega (arith, c.loop-i.invariant.0.behind)

pub bounds-parts-count : goal.bounds-parts-count
bounds-parts-count c = omega (arith, c.loop-i.invariant.0.behind, c.loop-i.invariant.0.room)

pub overflow_add-count : goal.overflow_add-count
overflow_add-count c = omega (arith, c.loop-i.invariant.0.behind)

pub loop-i-smaller : goal.loop-i-smaller
loop-i-smaller c = let h = c.in-Ok.ensures.inside _ _ _ (ap Ok c.in-Rule.is) in
    let w = entry_shaped c.args.image.now c.requires.0 _ h.0 in
    omega (arith, h.1.1, w.target-least, c.loop-i.invariant.0.near)

pub loop-i-preserved : goal.loop-i-preserved
loop-i-preserved c = let a = c.args in
    let k = c.loop-i in
    let h = c.in-Ok.ensures.inside _ _ _ (ap Ok c.in-Rule.is) in
    let w = entry_shaped a.image.now c.requires.0 _ h.0 in (
      subst (λ (x : ℕ). Gone a.image.now a.sets.now a.right_sets a.left.now a.right.now a.frame.now (set k.parts k.count c.part_of.result) (k.count + 1) x) (sym h.1.1)
          (next a.image.now a.sets.now a.right_sets a.left.now a.right.now a.frame.now c.requires.0 k.parts k.count k.i k.invariant.0 (omega arith)
          _ _
          (sym (by_states a.image.now a.sets.now a.right_sets a.left.now a.right.now a.frame.now k.i _ _ c.from-s.ensures c.from.ensures _ c.in-Ok.ensures) ∙ ap (λ (x : Chosen). choice_of a.image.now (Ok x)) c.in-Rule.is)
          h.0 _ c.part_of.ensures _ refl w.target-least w.target-most),
      length-set k.parts k.count _ ∙ k.invariant.1,
    )

pub returns : goal.returns
returns c = let a = c.args in
    let k = c.loop-i in
    done a.image.now a.sets.now a.right_sets a.left.now a.right.now a.frame.now c.requires.0 k.parts k.count k.i k.invariant.0 (omega arith)
