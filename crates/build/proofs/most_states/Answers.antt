-- `build::most_states` meets its contract: the lengths of the fields are summed over the literal rules.
-- Assumes nothing.
use Prim.Native.Nat.{◌+◌}
use mathlib.Core.Path.{refl, sym, ap, ◌∙◌}
use mathlib.Core.Path.{◌≡◌}
use mathlib.Core.Bool.{true}
use mathlib.Core.List.{List}
use Prim.Native.Nat.{ℕ, ◌<◌}
use lib.ListN.{length, get_or}
use Rattle.classes.specs.Ordinal.{origin}
use Rattle.image.specs.Image.{valid, total_of, origins_of, entry_at}
use native.Mathlib.Omega.{arith}
use Rattle.image.proofs.Literals.{total_is, literals_few}
use Rattle.literals.proofs.Places.{left-long, target-long, right-long}
use Rattle.build.proofs.Bounding as B
use Rattle.build.proofs.most_states.Goals as goal

-- one literal rule more, whose fields have these symbols
another : (image : List ℕ) (ok : valid image ≡ true) (most i : ℕ) → B.Bounding image most i → i < total_of image → (place : ℕ) → place ≡ (get_or (origins_of image) i (origin 0 0)).place → (l t r : List ℕ) → l ≡ (entry_at image place).rule.left → t ≡ (entry_at image place).rule.target → r ≡ (entry_at image place).rule.right → B.Bounding image (most + (length l + length t + length r)) (i + 1)
another image ok most i b h place o l t r e f g =
    B.next image ok most i b h _ _ _
    (ap length e ∙ sym (left-long image ok i h place o _ refl))
    (ap length f ∙ sym (target-long image ok i h place o _ refl))
    (ap length g ∙ sym (right-long image ok i h place o _ refl))

pub loop-i-init : goal.loop-i-init
loop-i-init c = B.begin _

pub owner_at-place-requires : goal.owner_at-place-requires
owner_at-place-requires c = omega (arith, c.requires, c.loop-i-test.true)

pub overflow_add-most : goal.overflow_add-most
overflow_add-most c = omega (arith, (another c.args.rules.bytes.now c.args.rules.sound _ _ c.loop-i.invariant (omega (arith, c.requires, c.loop-i-test.true)) _ c.owner_at-place.ensures.0 _ _ _ c.left_at-left.ensures c.target_at-target.ensures c.right_at-right.ensures).few, (another c.args.rules.bytes.now c.args.rules.sound _ _ c.loop-i.invariant (omega (arith, c.requires, c.loop-i-test.true)) _ c.owner_at-place.ensures.0 _ _ _ c.left_at-left.ensures c.target_at-target.ensures c.right_at-right.ensures).reached, total_is _ c.args.rules.sound, literals_few _ c.args.rules.sound)

pub overflow_add-most-in-loop-i : goal.overflow_add-most-in-loop-i
overflow_add-most-in-loop-i c = omega (arith, (another c.args.rules.bytes.now c.args.rules.sound _ _ c.loop-i.invariant (omega (arith, c.requires, c.loop-i-test.true)) _ c.owner_at-place.ensures.0 _ _ _ c.left_at-left.ensures c.target_at-target.ensures c.right_at-right.ensures).few, (another c.args.rules.bytes.now c.args.rules.sound _ _ c.loop-i.invariant (omega (arith, c.requires, c.loop-i-test.true)) _ c.owner_at-place.ensures.0 _ _ _ c.left_at-left.ensures c.target_at-target.ensures c.right_at-right.ensures).reached, total_is _ c.args.rules.sound, literals_few _ c.args.rules.sound)

pub overflow_add-most-in-loop-i-2 : goal.overflow_add-most-in-loop-i-2
overflow_add-most-in-loop-i-2 c = omega (arith, (another c.args.rules.bytes.now c.args.rules.sound _ _ c.loop-i.invariant (omega (arith, c.requires, c.loop-i-test.true)) _ c.owner_at-place.ensures.0 _ _ _ c.left_at-left.ensures c.target_at-target.ensures c.right_at-right.ensures).few, (another c.args.rules.bytes.now c.args.rules.sound _ _ c.loop-i.invariant (omega (arith, c.requires, c.loop-i-test.true)) _ c.owner_at-place.ensures.0 _ _ _ c.left_at-left.ensures c.target_at-target.ensures c.right_at-right.ensures).reached, total_is _ c.args.rules.sound, literals_few _ c.args.rules.sound)

pub loop-i-preserved : goal.loop-i-preserved
loop-i-preserved c = another c.args.rules.bytes.now c.args.rules.sound _ _ c.loop-i.invariant (omega (arith, c.requires, c.loop-i-test.true)) _ c.owner_at-place.ensures.0 _ _ _ c.left_at-left.ensures c.target_at-target.ensures c.right_at-right.ensures

pub returns : goal.returns
returns c = B.finished _ c.args.rules.sound _ _ c.loop-i.invariant (omega (arith, c.requires, c.loop-i-test.false))
