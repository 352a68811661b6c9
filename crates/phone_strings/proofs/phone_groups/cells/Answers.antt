-- `phone_groups::cells` meets its contract: the cells of the state from place 64 on.
-- Assumes nothing.
use Rattle.phone_strings.proofs.PhoneCells.{phone_cells}
use Rattle.phone_strings.proofs.phone_groups.cells.Goals as goal

pub returns : goal.returns
returns c = phone_cells _ _ _ _ _ _ c.requires c.row_cells-s.ensures c.first-from.ensures
