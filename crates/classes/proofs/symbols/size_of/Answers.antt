-- `classes::symbols::size_of` meets its contract.
-- Assumes nothing.
use mathlib.Core.Path.{ap, ◌∙◌}
use native.Mathlib.Omega.{arith}
use lib.ListN.{length}
use Rattle.classes.proofs.Standing.{alone_long}
use Rattle.classes.proofs.symbols.size_of.Goals as goal

pub returns-then-symbol-lt-FIRST_CLASS : goal.returns-then-symbol-lt-FIRST_CLASS
returns-then-symbol-lt-FIRST_CLASS c = (alone_long c.args.masks.now c.args.symbol c.if-symbol-lt-FIRST_CLASS.true, omega arith)

pub returns : goal.returns
returns c = (c.size_in.ensures.0 ∙ ap length c.mask_of.ensures, c.size_in.ensures.1)
