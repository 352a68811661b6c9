-- `minimality::rows_good` meets its contract.
-- Assumes nothing.
use Rattle.minimality.proofs.Good.{RowGood}
use Rattle.minimality.proofs.Scan.{AllTo}
use Prim.Native.Nat.{◌≤◌, ◌+◌}
use Rattle.minimality.proofs.rows_good.Given as goal

abbrev pub invariant-loop-q : goal.invariant-loop-q
invariant-loop-q l = (l.q ≤ l.n + 1) × AllTo (RowGood l.words) l.q
