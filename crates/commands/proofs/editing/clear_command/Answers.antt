-- `commands::editing::clear_command` meets its contract: a frame of 1 byte clears, any other is malformed.
-- Assumes nothing.
use lib.ListN.{length}
use mathlib.Core.Path.{ap}
use Rattle.image.specs.Image.{Edited, cleared}
use borrow.Author.Rules.{rules}
use lib.Dec.{eqb}
use borrow.Author.Tests.{eq-eqb, ne_eqb}
use Rattle.command_parts.specs.Answers.{leaving, done_line}
use Rattle.command_parts.specs.Memory.{cleared_by}
use Rattle.command_parts.proofs.Replies.{answered_not, answered_done}
use Rattle.commands.proofs.editing.clear_command.Goals as goal

pub returns-then-f-ne1 : goal.returns-then-f-ne1
unfolding cleared_by
returns-then-f-ne1 c = let a = c.args in
    answered_not (eqb (length a.f.now) 1) (leaving done_line (cleared a.image.now).image) a.image.now a.out.now _ _
    (ne_eqb (length a.f.now) 1 c.if-f-ne1.true) c.malformed.ensures.len c.malformed.ensures.bytes

pub returns : goal.returns
unfolding cleared_by
returns c = let a = c.args in
    answered_done (eqb (length a.f.now) 1) (cleared a.image.now).image a.image.now a.out.now _ _
    (eq-eqb (length a.f.now) 1 c.if-f-ne1.false) _ (ap (λ (e : Edited). e.image) c.clear.ensures) c.done_line.ensures.len c.done_line.ensures.bytes
