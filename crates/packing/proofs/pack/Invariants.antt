-- `packing::pack` meets its contract.
-- Assumes nothing.
use Rattle.packing.specs.Packing.{group_at}
use Rattle.states.specs.States.{Written}
use Rattle.packing.proofs.pack.Given as goal

abbrev pub invariant-loop-k : goal.invariant-loop-k
invariant-loop-k l = Written (group_at l.phones) 0 l.k l.initial.g-items l.g-items
