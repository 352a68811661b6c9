-- `states::append_with_successor` meets its contract.
-- Assumes nothing.
use Rattle.states.proofs.Rows.{close_fits, with_successor_appended}
use borrow.Author.Rules.{rules}
use Rattle.states.proofs.append_with_successor.Goals as goal

pub closed-requires : goal.closed-requires
closed-requires c = close_fits _ _ _ _ _ c.requires.0 _ _ c.lowered-s.ensures _ _ c.put_cell-o.ensures

pub returns : goal.returns
returns c = with_successor_appended _ _ _ _ _ c.requires.0 _ _ c.lowered-s.ensures _ _ _ c.put_cell-o.ensures c.closed.ensures
