-- `measures::depth_all` meets its contract.
-- Assumes nothing.
use Rattle.measures.proofs.Deep.{Measured}
use lib.ListN.{length}
use mathlib.Core.Path.{◌≡◌}
use Prim.Native.Nat.{◌≤◌}
use Rattle.measures.proofs.depth_all.Given as goal

abbrev pub invariant-loop-q : goal.invariant-loop-q
invariant-loop-q l = (l.q ≤ l.n) × Measured l.words l.q l.depths × (length l.depths ≡ length l.initial.depths)
