-- `commands::editing::recount` meets its contract: the head with another edit count.
-- Assumes nothing.
use borrow.Author.Rules.{rules}
use Rattle.commands.proofs.editing.recount.Goals as goal

pub returns : goal.returns
returns c = cc (c.put_head.ensures, c.four_at-edits.ensures.0, c.last_issued-last.ensures, c.rule_count-count.ensures.0)
