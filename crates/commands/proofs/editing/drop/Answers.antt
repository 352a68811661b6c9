-- `commands::editing::drop` meets its contract: the edit is handed the number that the fields say.
-- Assumes nothing.
use borrow.Author.Rules.{rules}
use Rattle.commands.proofs.editing.drop.Goals as goal

pub returns : goal.returns
returns c = cc (c.drop_rule.ensures, c.two_at.ensures)
