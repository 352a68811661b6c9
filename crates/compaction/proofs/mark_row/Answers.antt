-- `compaction::mark_row` meets its contract.
-- Assumes nothing.
use Rattle.compaction.proofs.Marks.{row_asks, row_marked}
use borrow.Author.Rules.{rules}
use Rattle.compaction.proofs.mark_row.Goals as goal

pub mark_cells-requires : goal.mark_cells-requires
mark_cells-requires c = row_asks _ _ _ _ _ _ c.row_cells-s.ensures c.first-e.ensures _ c.requires.0.sound c.requires.1 c.requires.0.marked

pub returns : goal.returns
returns c = row_marked _ _ _ _ _ _ c.row_cells-s.ensures c.first-e.ensures _ _ c.mark_cells.ensures
