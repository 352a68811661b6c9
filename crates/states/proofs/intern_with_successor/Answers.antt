-- `states::intern_with_successor` meets its contract: the row after n is laid, so that it can be looked for.
-- Assumes nothing.
use borrow.Author.Rules.{rules}
use Rattle.states.proofs.Puts.{successor_settle}
use Rattle.states.proofs.intern_with_successor.Goals as goal

pub find_or_add-requires : goal.find_or_add-requires
find_or_add-requires c = successor_settle _ _ _ _ _ _ c.requires c.append_with_successor.ensures
