-- `states::at` meets its contract.
-- Assumes nothing.
use Rattle.states.proofs.Rows.{value_at}
use borrow.Author.Rules.{rules}
use Rattle.states.proofs.at.Goals as goal

pub returns : goal.returns
returns c = value_at _ _ _ _ _ _ _ _ c.row_cells-s.ensures c.first-i.ensures c.value.ensures
