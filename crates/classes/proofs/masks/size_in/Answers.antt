-- `classes::masks::size_in` meets its contract.
-- Assumes nothing.
use mathlib.Core.Path.{sym}
use native.Mathlib.Omega.{arith}
use Rattle.classes.proofs.Letters.{length_letters, ones_few}
use Rattle.classes.proofs.masks.size_in.Goals as goal

pub overflow_cast-result : goal.overflow_cast-result
overflow_cast-result c = omega (arith, ones_few c.args.mask (omega arith))

pub returns : goal.returns
returns c = (sym (length_letters c.args.mask (omega arith)), ones_few c.args.mask (omega arith))
