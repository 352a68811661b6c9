-- `classes::masks::first_letter` meets its contract.
-- Assumes nothing.
use native.Mathlib.Omega.{arith}
use Rattle.classes.proofs.Letters.{letters_front, lowest_below}
use Rattle.classes.proofs.masks.first_letter.Goals as goal

pub overflow_cast-result : goal.overflow_cast-result
overflow_cast-result c = omega (arith, lowest_below c.args.mask c.requires (omega arith))

pub returns : goal.returns
returns c = (letters_front c.args.mask c.requires (omega arith), lowest_below c.args.mask c.requires (omega arith))
