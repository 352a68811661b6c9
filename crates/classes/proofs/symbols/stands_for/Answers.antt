-- `classes::symbols::stands_for` meets its contract.
-- Assumes nothing.
use mathlib.Core.Path.{ap, ◌∙◌}
use native.Mathlib.Omega.{arith}
use Rattle.numbers.specs.Bits.{bit}
use Rattle.classes.proofs.Standing.{stands_alone, stands_bit, stands_high}
use Rattle.classes.proofs.symbols.stands_for.Goals as goal

pub returns-then-symbol-lt-FIRST_CLASS : goal.returns-then-symbol-lt-FIRST_CLASS
returns-then-symbol-lt-FIRST_CLASS c = stands_alone c.args.masks.now c.args.symbol c.args.letter c.if-symbol-lt-FIRST_CLASS.true

pub returns-then-letter-gt63 : goal.returns-then-letter-gt63
returns-then-letter-gt63 c = stands_high c.args.masks.now c.args.symbol c.args.letter c.if-symbol-lt-FIRST_CLASS.false c.if-letter-gt63.true

pub returns : goal.returns
returns c = c.has_bit.ensures
    ∙ (ap (bit c.mask_of-mask.result) c.from.ensures
    ∙ stands_bit c.args.masks.now c.args.symbol c.args.letter c.mask_of-mask.result c.mask_of-mask.ensures (omega arith))
