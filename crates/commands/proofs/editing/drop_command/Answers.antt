-- `commands::editing::drop_command` meets its contract: a frame of 3 bytes is the edit, any other is malformed.
-- Assumes nothing.
use lib.ListN.{length}
use lib.Dec.{eqb}
use borrow.Author.Tests.{eq-eqb, ne_eqb}
use Rattle.numbers.specs.Numbers.{two}
use Rattle.edits.specs.Ledger.{Edit}
use Rattle.edits.specs.Edits.{edited}
use Rattle.command_parts.specs.Answers.{ruled}
use Rattle.commands.specs.Editing.{dropped}
use Rattle.command_parts.proofs.Replies.{answered_not, answered_edit}
use borrow.Author.Rules.{rules}
use Rattle.commands.proofs.editing.drop_command.Goals as goal

pub returns-then-f-ne3 : goal.returns-then-f-ne3
unfolding dropped
returns-then-f-ne3 c = let a = c.args in answered_not (eqb (length a.f.now) 3) (ruled (edited a.image.now (Edit.Drop (two 1 a.f.now)))) a.image.now a.out.now _ _ (ne_eqb (length a.f.now) 3 c.if-f-ne3.true) c.malformed.ensures.len c.malformed.ensures.bytes

pub returns : goal.returns
unfolding dropped
returns c = let a = c.args in answered_edit (eqb (length a.f.now) 3) (edited a.image.now (Edit.Drop (two 1 a.f.now))) a.image.now a.out.now _ _ (eq-eqb (length a.f.now) 3 c.if-f-ne3.false) c.drop-answer.result _ c.drop-answer.ensures c.reply_line.ensures.len c.reply_line.ensures.bytes
