-- `classes::masks::class_mask` meets its contract. The loop's invariant: i letters are in the mask, and the rest decides.
-- Assumes nothing.
use Prim.Native.Nat.{ℕ, ◌^◌}
use mathlib.Core.Path.{refl, ap, ◌∙◌}
use native.Mathlib.Omega.{arith}
use lib.Bits.{bit_or}
use Rattle.classes.proofs.Shapes.{taken_begin, none_short, none_long, none_low, none_high, taken_next, taken_end}
use Rattle.classes.proofs.masks.class_mask.Goals as goal

pub returns-then-letters-lt1 : goal.returns-then-letters-lt1
returns-then-letters-lt1 c = none_short c.args.letters.now c.if-letters-lt1.true

pub returns-then-letters-gt-MAX_CLASS : goal.returns-then-letters-gt-MAX_CLASS
returns-then-letters-gt-MAX_CLASS c = none_long c.args.letters.now c.if-letters-gt-MAX_CLASS.true

pub loop-c-init : goal.loop-c-init
loop-c-init c = taken_begin c.args.letters.now

pub returns-then-c-low : goal.returns-then-c-low
returns-then-c-low c = none_low c.args.letters.now (omega arith) (omega arith) c.loop-c.low c.loop-c.mask c.loop-c.c-index c.loop-c.invariant (omega arith) _ refl c.if-c-low.true

pub returns-then-c-gt-MAX_LETTER : goal.returns-then-c-gt-MAX_LETTER
returns-then-c-gt-MAX_LETTER c = none_high c.args.letters.now (omega arith) (omega arith) c.loop-c.low c.loop-c.mask c.loop-c.c-index c.loop-c.invariant (omega arith) _ refl c.if-c-gt-MAX_LETTER.true

pub loop-c-preserved : goal.loop-c-preserved
loop-c-preserved c = taken_next c.args.letters.now (omega arith) (omega arith) c.loop-c.low c.loop-c.mask c.loop-c.c-index c.loop-c.invariant (omega arith) _ refl c.if-c-low.false c.if-c-gt-MAX_LETTER.false _ (c.with_bit-mask.ensures ∙ ap (λ (n : ℕ). bit_or c.loop-c.mask (2 ^ n)) c.from.ensures)

pub returns : goal.returns
returns c = taken_end c.args.letters.now (omega arith) (omega arith) c.loop-c.low c.loop-c.mask c.loop-c.c-index c.loop-c.invariant (omega arith)
