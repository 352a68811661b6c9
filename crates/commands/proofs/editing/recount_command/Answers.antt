-- `commands::editing::recount_command` meets its contract: a frame of 5 bytes overwrites, any other is malformed.
-- Assumes nothing.
use lib.ListN.{length}
use borrow.Author.Rules.{rules}
use lib.Dec.{eqb}
use borrow.Author.Tests.{eq-eqb, ne_eqb}
use Rattle.command_parts.specs.Answers.{leaving, done_line}
use Rattle.command_parts.specs.Memory.{recounted, recounted_by}
use Rattle.command_parts.proofs.Replies.{answered_not, answered_done}
use Rattle.commands.proofs.editing.recount_command.Goals as goal

pub returns-then-f-ne5 : goal.returns-then-f-ne5
unfolding recounted_by
returns-then-f-ne5 c = let a = c.args in
    answered_not (eqb (length a.f.now) 5) (leaving done_line (recounted a.f.now a.image.now)) a.image.now a.out.now _ _
    (ne_eqb (length a.f.now) 5 c.if-f-ne5.true) c.malformed.ensures.len c.malformed.ensures.bytes

pub returns : goal.returns
unfolding recounted_by
returns c = let a = c.args in
    answered_done (eqb (length a.f.now) 5) (recounted a.f.now a.image.now) a.image.now a.out.now _ _
    (eq-eqb (length a.f.now) 5 c.if-f-ne5.false) _ c.recount.ensures c.done_line.ensures.len c.done_line.ensures.bytes
