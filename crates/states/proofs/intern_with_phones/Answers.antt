-- `states::intern_with_phones` meets its contract: the row after n is laid, so that it can be looked for.
-- Assumes nothing.
use borrow.Author.Rules.{rules}
use Rattle.states.proofs.Puts.{phones_settle}
use Rattle.states.proofs.intern_with_phones.Goals as goal

pub find_or_add-requires : goal.find_or_add-requires
find_or_add-requires c = phones_settle _ _ _ _ _ c.requires.0 c.requires.1 c.append_with_phones.ensures
