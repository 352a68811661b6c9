-- `commands::editing::add_command` meets its contract: a frame as long as its lengths say is the edit, any other is malformed.
-- Assumes nothing.
use mathlib.Core.Path.{sym, ◌∙◌}
use borrow.Author.Tests.{not-true, not-false}
use Rattle.numbers.specs.Numbers.{two}
use Rattle.edits.specs.Ledger.{Edit}
use Rattle.edits.specs.Edits.{edited}
use Rattle.command_parts.specs.Answers.{ruled}
use Rattle.commands.specs.Editing.{added}
use Rattle.command_parts.specs.Fields.{add_sized, added_rule}
use Rattle.commands.proofs.AddFrame.{sized}
use Rattle.command_parts.proofs.Replies.{answered_not, answered_edit}
use borrow.Author.Rules.{rules}
use Rattle.commands.proofs.editing.add_command.Goals as goal

pub returns-then-not-add_sized : goal.returns-then-not-add_sized
unfolding added
returns-then-not-add_sized c = let a = c.args in answered_not (add_sized a.f.now) (ruled (edited a.image.now (Edit.Add (added_rule a.f.now) (two 1 a.f.now)))) a.image.now a.out.now _ _ (sym c.add_sized.ensures ∙ c.if-not-add_sized.true) c.malformed.ensures.len c.malformed.ensures.bytes

pub add-answer-requires : goal.add-answer-requires
add-answer-requires c = sized c.args.f.now (sym c.add_sized.ensures ∙ c.if-not-add_sized.false)

pub returns : goal.returns
unfolding added
returns c = let a = c.args in answered_edit (add_sized a.f.now) (edited a.image.now (Edit.Add (added_rule a.f.now) (two 1 a.f.now))) a.image.now a.out.now _ _ (sym c.add_sized.ensures ∙ c.if-not-add_sized.false) c.add-answer.result _ c.add-answer.ensures c.reply_line.ensures.len c.reply_line.ensures.bytes
