-- `states::same_rows` meets its contract.
-- Assumes nothing.
use Rattle.states.proofs.Rows.{rows_compared}
use Rattle.states.proofs.same_rows.Goals as goal

pub returns : goal.returns
returns c = rows_compared _ _ _ _ _ _ _ _ c.row_cells-x.ensures c.row_cells-y.ensures _ c.eq.ensures
