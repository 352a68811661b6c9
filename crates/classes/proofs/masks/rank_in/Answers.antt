-- `classes::masks::rank_in` meets its contract.
-- Assumes nothing.
use native.Mathlib.Omega.{arith}
use Rattle.classes.proofs.Letters.{shifted_some, rank_is, rank_few}
use Rattle.classes.proofs.masks.rank_in.Goals as goal

pub overflow_sub-result : goal.overflow_sub-result
overflow_sub-result c = shifted_some c.args.letter c.requires

pub overflow_cast-result : goal.overflow_cast-result
overflow_cast-result c = omega (arith, rank_few c.args.letter c.requires c.args.mask)

pub returns : goal.returns
returns c = rank_is c.args.letter c.requires c.args.mask
