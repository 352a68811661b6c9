-- `compaction::mark_cells` meets its contract.
-- Assumes nothing.
use Rattle.compaction.specs.Compaction.{CellsMarked}
use Prim.Native.Nat.{◌+◌}
use Rattle.compaction.proofs.mark_cells.Given as goal

abbrev pub invariant-loop-cell : goal.invariant-loop-cell
invariant-loop-cell l = CellsMarked l.words l.a (l.a + l.cell-index) l.initial.marks l.marks
