-- `commands::editing::force` meets its contract: the number at the place, then the head.
-- Assumes nothing.
use borrow.Author.Rules.{rules}
use Rattle.commands.proofs.editing.force.Goals as goal

pub returns : goal.returns
returns c = cc (c.edit_count-edits.ensures, c.put_head.ensures, c.two_at-4.ensures, c.two_at-3.ensures.0, c.renumber.ensures, c.two_at-2.ensures, c.two_at.ensures.0)
