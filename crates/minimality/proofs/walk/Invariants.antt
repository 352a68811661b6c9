-- `minimality::walk` meets its contract.
-- Assumes nothing.
use Rattle.minimality.proofs.Keys.{Walking}
use Rattle.minimality.proofs.walk.Given as goal

abbrev pub invariant-loop-i : goal.invariant-loop-i
invariant-loop-i l = Walking l.words l.t l.i

abbrev pub decreases-loop-i : goal.decreases-loop-i
decreases-loop-i l = l.i
