-- `commands::editing::class_command` meets its contract: a frame of 2 bytes or more is the edit, any other is malformed.
-- Assumes nothing.
use lib.ListN.{length, get_or, drop}
use lib.Dec.{leb}
use borrow.Author.Tests.{le-leb, lt-leb}
use Rattle.edits.specs.Ledger.{Edit}
use Rattle.edits.specs.Edits.{edited}
use Rattle.command_parts.specs.Answers.{ruled}
use Rattle.commands.specs.Editing.{class_set}
use Rattle.command_parts.proofs.Replies.{answered_not, answered_edit}
use borrow.Author.Rules.{rules}
use Rattle.commands.proofs.editing.class_command.Goals as goal

pub returns-then-f-lt2 : goal.returns-then-f-lt2
unfolding class_set
returns-then-f-lt2 c = let a = c.args in answered_not (leb 2 (length a.f.now)) (ruled (edited a.image.now (Edit.SetClass (get_or a.f.now 1 0) (drop 2 a.f.now)))) a.image.now a.out.now _ _ (lt-leb 2 (length a.f.now) c.if-f-lt2.true) c.malformed.ensures.len c.malformed.ensures.bytes

pub returns : goal.returns
unfolding class_set
returns c = let a = c.args in answered_edit (leb 2 (length a.f.now)) (edited a.image.now (Edit.SetClass (get_or a.f.now 1 0) (drop 2 a.f.now))) a.image.now a.out.now _ _ (le-leb 2 (length a.f.now) c.if-f-lt2.false) c.set_class-answer.result _ c.set_class-answer.ensures c.reply_line.ensures.len c.reply_line.ensures.bytes
