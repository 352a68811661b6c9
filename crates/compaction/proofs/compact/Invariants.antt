-- `compaction::compact` meets its contract.
-- Assumes nothing.
use Rattle.compaction.proofs.Moves.{Compacting, compact_begin, compact_next, compact_fits, swept}
use Prim.Native.Nat.{◌≤◌, ◌+◌, ◌-◌}
use native.Mathlib.Omega.{arith}
use borrow.Author.Rules.{rules}
use Rattle.compaction.proofs.compact.Given as goal

abbrev pub invariant-loop-i : goal.invariant-loop-i
invariant-loop-i l = (l.i ≤ l.top + 1) × Compacting l.initial.words l.initial.marks l.i l.k l.words l.marks
