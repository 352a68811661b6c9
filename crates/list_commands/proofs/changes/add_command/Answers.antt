-- `list_commands::changes::add_command` meets its contract: a command as long as its name length says is the change, any other is malformed.
-- Assumes nothing.
use mathlib.Core.Path.{sym, ◌∙◌}
use borrow.Author.Tests.{not-true, not-false}
use borrow.Author.Rules.{rules}
use Rattle.rules.specs.Refusals.{reply_of}
use Rattle.list_commands.proofs.Outcomes.{added_not, added}
use Rattle.list_commands.proofs.changes.add_command.Goals as goal

pub returns-then-not-add_sized : goal.returns-then-not-add_sized
returns-then-not-add_sized c = let a = c.args in
    added_not a.f.now a.list.now _ a.out.now _ (sym c.add_sized.ensures ∙ c.if-not-add_sized.true) c.malformed.ensures.len c.malformed.ensures.bytes

pub add-answer-requires : goal.add-answer-requires
add-answer-requires c = sym c.add_sized.ensures ∙ c.if-not-add_sized.false

pub returns : goal.returns
returns c = let a = c.args in
    added a.f.now a.list.now _ a.out.now _ _ (reply_of c.add-answer.result) (sym c.add_sized.ensures ∙ c.if-not-add_sized.false) c.add-answer.ensures (c.change_line.ensures.len, c.change_line.ensures.bytes)
