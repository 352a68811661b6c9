-- `classes::symbols::mask_of` meets its contract.
-- Assumes nothing.
use Prim.Native.Nat.{◌^◌}
use mathlib.Core.Path.{ap, ◌∙◌}
use lib.Bits.{bit_or}
use Rattle.classes.proofs.Standing.{mask_letter, mask_class, mask_none}
use Rattle.classes.proofs.symbols.mask_of.Goals as goal

pub returns-then-symbol-lt-FIRST_CLASS : goal.returns-then-symbol-lt-FIRST_CLASS
returns-then-symbol-lt-FIRST_CLASS c = mask_letter c.args.masks.now c.args.symbol _ c.if-symbol-lt-FIRST_CLASS.true (c.with_bit.ensures ∙ ap (λ n. bit_or 0 (2 ^ n)) c.from.ensures)

pub returns-then-symbol-le-MAX_SYMBOL : goal.returns-then-symbol-le-MAX_SYMBOL
returns-then-symbol-le-MAX_SYMBOL c = mask_class c.args.masks.now c.args.symbol _ c.if-symbol-lt-FIRST_CLASS.false c.if-symbol-le-MAX_SYMBOL.true c.mask_at.ensures

pub returns : goal.returns
returns c = mask_none c.args.masks.now c.args.symbol c.if-symbol-le-MAX_SYMBOL.false
