-- `measures::count_row` meets its contract.
-- Assumes nothing.
use Rattle.measures.proofs.Counting.{Counting}
use Prim.Native.Nat.{◌+◌}
use Rattle.measures.proofs.count_row.Given as goal

abbrev pub invariant-loop-x : goal.invariant-loop-x
invariant-loop-x l = Counting l.words l.q l.from l.e (l.from + l.x-index) l.s
