-- `commands::editing::force_command` meets its contract: a frame of 9 bytes overwrites, any other is malformed.
-- Assumes nothing.
use lib.ListN.{length}
use borrow.Author.Rules.{rules}
use lib.Dec.{eqb}
use borrow.Author.Tests.{eq-eqb, ne_eqb}
use Rattle.command_parts.specs.Answers.{leaving, done_line}
use Rattle.command_parts.specs.Memory.{forced, forced_by}
use Rattle.command_parts.proofs.Replies.{answered_not, answered_done}
use Rattle.commands.proofs.editing.force_command.Goals as goal

pub returns-then-f-ne9 : goal.returns-then-f-ne9
unfolding forced_by
returns-then-f-ne9 c = let a = c.args in
    answered_not (eqb (length a.f.now) 9) (leaving done_line (forced a.f.now a.image.now)) a.image.now a.out.now _ _
    (ne_eqb (length a.f.now) 9 c.if-f-ne9.true) c.malformed.ensures.len c.malformed.ensures.bytes

pub returns : goal.returns
unfolding forced_by
returns c = let a = c.args in
    answered_done (eqb (length a.f.now) 9) (forced a.f.now a.image.now) a.image.now a.out.now _ _
    (eq-eqb (length a.f.now) 9 c.if-f-ne9.false) _ c.force.ensures c.done_line.ensures.len c.done_line.ensures.bytes
