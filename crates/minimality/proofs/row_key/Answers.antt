-- `minimality::row_key` meets its contract.
-- Assumes nothing.
use Rattle.minimality.proofs.Keys.{key-of}
use borrow.Author.Rules.{rules}
use Rattle.minimality.proofs.row_key.Goals as goal

pub returns : goal.returns
returns c = key-of _ _ _ _ _ _ c.row_cells-s.ensures c.key.ensures
