-- `classes::masks::is_letter_in` meets its contract: letter d is the one given where the mask has it, with d letters below it.
-- Assumes nothing.
use Prim.Native.Nat.{ℕ}
use mathlib.Core.Path.{sym, ap, ap₂, ◌∙◌}
use mathlib.Core.Bool.{Bool, ◌&&◌}
use native.Mathlib.Omega.{arith}
use lib.Dec.{eqb}
use lib.Count.{ones_in}
use Rattle.numbers.specs.Bits.{bit}
use Rattle.classes.proofs.Letters.{letter_is, letter_high}
use Rattle.classes.proofs.masks.is_letter_in.Goals as goal

pub returns-then-letter-gt63 : goal.returns-then-letter-gt63
returns-then-letter-gt63 c = sym (letter_high c.args.mask c.args.d c.args.letter c.requires c.if-letter-gt63.true)

pub returns-then-not-has_bit : goal.returns-then-not-has_bit
returns-then-not-has_bit c = sym
    (letter_is c.args.mask c.args.letter c.args.d (omega arith) c.requires
    ∙ ap (λ (b : Bool). b && eqb (ones_in c.args.letter c.args.mask) c.args.d)
    (ap (bit c.args.mask) (sym c.from-y.ensures) ∙ (sym c.has_bit.ensures ∙ c.if-not-has_bit.true)))

pub returns : goal.returns
returns c = let w = c.from-y.ensures in
    sym
    (letter_is c.args.mask c.args.letter c.args.d (omega arith) c.requires
    ∙ ap₂ (λ (b : Bool) (n : ℕ). b && eqb n c.args.d)
    (ap (bit c.args.mask) (sym w) ∙ (sym c.has_bit.ensures ∙ c.if-not-has_bit.false))
    (ap (λ (n : ℕ). ones_in n c.args.mask) (sym w) ∙ sym c.rank_in.ensures))
