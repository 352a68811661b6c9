-- `compaction::move_row` meets its contract.
-- Assumes nothing.
use mathlib.Core.Path.{refl}
use Rattle.compaction.proofs.Moves.{moved-of}
use Rattle.compaction.proofs.move_row.Goals as goal

pub returns : goal.returns
returns c = moved-of _ _ _ _ _ _ _ _ refl refl refl c.move_cells.ensures
