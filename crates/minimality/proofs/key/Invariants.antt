-- `minimality::key` meets its contract.
-- Assumes nothing.
use Rattle.minimality.proofs.Keys.{Hashing}
use Rattle.minimality.proofs.key.Given as goal

abbrev pub invariant-loop-x : goal.invariant-loop-x
invariant-loop-x l = Hashing l.cells l.h l.x-index
