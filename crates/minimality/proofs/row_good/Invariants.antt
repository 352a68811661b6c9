-- `minimality::row_good` meets its contract.
-- Assumes nothing.
use Rattle.minimality.proofs.Good.{Going}
use Rattle.minimality.proofs.row_good.Given as goal

abbrev pub invariant-loop-x : goal.invariant-loop-x
invariant-loop-x l = Going l.cells l.q l.lo l.x-index
