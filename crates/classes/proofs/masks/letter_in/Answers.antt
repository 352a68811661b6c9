-- `classes::masks::letter_in` meets its contract. The loop's invariant: the letters of x are those of the mask less the i lowest.
-- Assumes nothing.
use mathlib.Core.Path.{refl}
use native.Mathlib.Omega.{arith}
use lib.Count.{trailing_le}
use Rattle.classes.proofs.Letters.{clear_some, clear_next, clear_end}
use Rattle.classes.proofs.masks.letter_in.Goals as goal

pub loop-init : goal.loop-init
loop-init c = refl

pub overflow_sub-x : goal.overflow_sub-x
overflow_sub-x c = clear_some c.args.mask c.args.d c.requires c.loop.x c.loop.counter (omega arith) c.loop.invariant

pub loop-preserved : goal.loop-preserved
loop-preserved c = clear_next c.args.mask c.args.d c.requires c.loop.x c.loop.counter (omega arith) c.loop.invariant

pub overflow_cast-result : goal.overflow_cast-result
overflow_cast-result c = omega (arith, trailing_le 64 c.loop.x)

pub returns : goal.returns
returns c = clear_end c.args.mask c.args.d c.requires c.loop.x c.loop.counter (omega arith) c.loop.invariant (omega arith)
