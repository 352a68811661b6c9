-- `commands::editing::add` meets its contract: the edit is handed the rule and the place that the fields say.
-- Assumes nothing.
use Rattle.commands.proofs.AddFrame.{add_is}
use borrow.Author.Rules.{rules}
use Rattle.commands.proofs.editing.add.Goals as goal

pub returns : goal.returns
returns c = let a = c.args in
    add_is _ a.f.now a.image.now _ _ c.rule_in-rule.ensures c.two_at.ensures.0 c.add_rule.ensures
