-- `list_commands::texts::read_out_command` meets its contract: a command of 5 bytes reads out, any other is malformed.
-- Assumes nothing.
use borrow.Author.Rules.{rules}
use Rattle.rules.specs.Refusals.{report_of}
use Rattle.list_commands.proofs.Outcomes.{read_not, read}
use Rattle.list_commands.proofs.texts.read_out_command.Goals as goal

pub returns-then-f-ne5 : goal.returns-then-f-ne5
returns-then-f-ne5 c = let a = c.args in
    read_not a.f.now a.list.now a.text.now _ a.out.now _ c.if-f-ne5.true c.malformed.ensures.len c.malformed.ensures.bytes

pub returns : goal.returns
returns c = let a = c.args in
    read a.f.now a.list.now a.text.now _ a.out.now _ _ _ (report_of c.read_out_in-written.result) _ c.if-f-ne5.false c.lent-n.ensures.0 c.four_at.ensures.0 c.read_out_in-written.ensures (c.read_out_line.ensures.len, c.read_out_line.ensures.bytes)
