-- `change::rebuild::restore` meets its contract: the offsets, then the cells.
-- Assumes nothing.
use borrow.Author.Rules.{rules}
use Rattle.change.proofs.Saving.{restored_of}
use Rattle.change.proofs.rebuild.restore.Goals as goal

pub returns : goal.returns
returns c = restored_of _ _ _ _ _ _ c.requires.before c.copy_words.ensures c.copy_words-2.ensures
