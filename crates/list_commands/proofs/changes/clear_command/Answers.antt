-- `list_commands::changes::clear_command` meets its contract: a command of 1 byte clears, any other is malformed.
-- Assumes nothing.
use borrow.Author.Rules.{rules}
use Rattle.rules.specs.Refusals.{reply_of}
use Rattle.list_commands.proofs.Outcomes.{cleared_not, cleared}
use Rattle.list_commands.proofs.changes.clear_command.Goals as goal

pub returns-then-f-ne1 : goal.returns-then-f-ne1
returns-then-f-ne1 c = let a = c.args in
    cleared_not a.f.now a.list.now _ a.out.now _ c.if-f-ne1.true c.malformed.ensures.len c.malformed.ensures.bytes

pub returns : goal.returns
returns c = let a = c.args in
    cleared a.f.now a.list.now _ a.out.now _ _ (reply_of c.clear-answer.result) c.if-f-ne1.false c.clear-answer.ensures (c.empty_line.ensures.len, c.empty_line.ensures.bytes)
