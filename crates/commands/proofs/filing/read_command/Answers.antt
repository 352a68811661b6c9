-- `commands::filing::read_command` meets its contract: a frame of 1 byte reads, any other is malformed.
-- Assumes nothing.
use lib.ListN.{length}
use lib.Dec.{eqb}
use borrow.Author.Tests.{eq-eqb, ne_eqb}
use Rattle.commands.specs.Filing.{loaded_from, loaded_by}
use Rattle.command_parts.proofs.Replies.{answered_not, answered_edit}
use borrow.Author.Rules.{rules}
use Rattle.command_parts.specs.Answers.{ruled}
use Rattle.commands.proofs.filing.read_command.Goals as goal

pub returns-then-f-ne1 : goal.returns-then-f-ne1
unfolding loaded_by
returns-then-f-ne1 c = let a = c.args in answered_not (eqb (length a.f.now) 1) (ruled (loaded_from a.file.now a.image.now)) a.image.now a.out.now _ _ (ne_eqb (length a.f.now) 1 c.if-f-ne1.true) c.malformed.ensures.len c.malformed.ensures.bytes

pub returns : goal.returns
unfolding loaded_by
returns c = let a = c.args in answered_edit (eqb (length a.f.now) 1) (loaded_from a.file.now a.image.now) a.image.now a.out.now _ _ (eq-eqb (length a.f.now) 1 c.if-f-ne1.false) c.load-answer.result _ c.load-answer.ensures c.reply_line.ensures.len c.reply_line.ensures.bytes
