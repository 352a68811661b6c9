-- `commands::editing::move_command` meets its contract: a frame of 5 bytes is the edit, any other is malformed.
-- Assumes nothing.
use lib.ListN.{length}
use lib.Dec.{eqb}
use borrow.Author.Tests.{eq-eqb, ne_eqb}
use Rattle.numbers.specs.Numbers.{two}
use Rattle.edits.specs.Ledger.{Edit}
use Rattle.edits.specs.Edits.{edited}
use Rattle.command_parts.specs.Answers.{ruled}
use Rattle.commands.specs.Editing.{moved}
use Rattle.command_parts.proofs.Replies.{answered_not, answered_edit}
use borrow.Author.Rules.{rules}
use Rattle.commands.proofs.editing.move_command.Goals as goal

pub returns-then-f-ne5 : goal.returns-then-f-ne5
unfolding moved
returns-then-f-ne5 c = let a = c.args in answered_not (eqb (length a.f.now) 5) (ruled (edited a.image.now (Edit.Move (two 1 a.f.now) (two 3 a.f.now)))) a.image.now a.out.now _ _ (ne_eqb (length a.f.now) 5 c.if-f-ne5.true) c.malformed.ensures.len c.malformed.ensures.bytes

pub returns : goal.returns
unfolding moved
returns c = let a = c.args in answered_edit (eqb (length a.f.now) 5) (edited a.image.now (Edit.Move (two 1 a.f.now) (two 3 a.f.now))) a.image.now a.out.now _ _ (eq-eqb (length a.f.now) 5 c.if-f-ne5.false) c.relocate-answer.result _ c.relocate-answer.ensures c.reply_line.ensures.len c.reply_line.ensures.bytes
