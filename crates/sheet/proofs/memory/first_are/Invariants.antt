-- Whether the first elements are zero.
-- Assumes nothing.
use lib.ListN.{take}
use Rattle.sheet.proofs.Zeros as Z
use Rattle.sheet.proofs.memory.first_are.Given as goal

abbrev pub invariant-loop-x : goal.invariant-loop-x
invariant-loop-x g l = Z.Seen g.T.PartialEq.eq l.zero (take l.n l.s) l.x-index l.all
