-- `commands::editing::relocate` meets its contract: the edit is handed the number and the place that the fields say.
-- Assumes nothing.
use borrow.Author.Rules.{rules}
use Rattle.commands.proofs.editing.relocate.Goals as goal

pub returns : goal.returns
returns c = cc (c.move_rule.ensures, c.two_at.ensures, c.two_at-2.ensures.0)
