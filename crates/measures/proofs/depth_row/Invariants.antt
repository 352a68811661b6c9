-- `measures::depth_row` meets its contract.
-- Assumes nothing.
use Rattle.measures.proofs.Deep.{Deepening}
use Prim.Native.Nat.{◌+◌}
use Rattle.measures.proofs.depth_row.Given as goal

abbrev pub invariant-loop-x : goal.invariant-loop-x
invariant-loop-x l = Deepening l.words l.q l.from l.e (l.from + l.x-index) l.d
