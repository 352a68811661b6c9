-- `change::rebuild::save` meets its contract: the offsets, then the cells.
-- Assumes nothing.
use borrow.Author.Rules.{rules}
use Rattle.change.proofs.Saving.{saved_of}
use Rattle.change.proofs.rebuild.save.Goals as goal

pub returns : goal.returns
returns c = saved_of _ _ _ _ _ _ c.copy_words.ensures c.copy_words-2.ensures
