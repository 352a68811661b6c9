-- `states::write_groups` meets its contract.
-- Assumes nothing.
use Prim.Native.Nat.{◌≤◌}
use lib.ListN.{length}
use Rattle.states.specs.States.{Written, group_of}
use Rattle.states.proofs.write_groups.Given as goal

abbrev pub invariant-loop-k : goal.invariant-loop-k
invariant-loop-k l = (l.k ≤ length l.groups) × Written (group_of l.groups) l.o l.k l.initial.words l.words
