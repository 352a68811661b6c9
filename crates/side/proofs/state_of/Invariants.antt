-- A run of the rows over a part of the symbols.
-- Assumes nothing.
use Prim.Native.Nat.{◌+◌}
use Rattle.side.proofs.Running.{Running}
use Rattle.side.proofs.state_of.Given as goal

abbrev pub invariant-loop-symbol : goal.invariant-loop-symbol
invariant-loop-symbol l = Running l.rows l.pats l.count l.a l.e l.q (l.a + l.symbol-index)
