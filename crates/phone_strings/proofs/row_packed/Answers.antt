-- `row_packed` meets its contract: the state's cells of phones decide.
-- Assumes nothing.
use Rattle.phone_strings.proofs.Grouped.{packed_decided}
use borrow.Author.Rules.{rules}
use Rattle.phone_strings.proofs.row_packed.Goals as goal

pub returns : goal.returns
returns c = packed_decided _ _ _ _ _ c.cells-s.ensures c.groups_good.ensures
