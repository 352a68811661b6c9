-- `list_commands::units::store_command` meets its contract: one unit is stored where its index is inside.
-- Assumes nothing.
use borrow.Author.Tests.{ne_eqb}
use borrow.Author.Rules.{rules}
use lib.ListN.{length}
use lib.Dec.{eqb}
use Rattle.command_parts.specs.Fields.{four}
use Rattle.command_parts.specs.Memory.{stored_at}
use Rattle.command_parts.proofs.Replies.{answered_not}
use Rattle.command_parts.proofs.Shown.{stored_out, stored_in}
use Rattle.list_commands.specs.ListCommands.{stored_unit}
use Rattle.list_commands.proofs.units.store_command.Goals as goal

pub returns-then-f-ne9 : goal.returns-then-f-ne9
unfolding stored_unit
returns-then-f-ne9 c = let a = c.args in
    answered_not (eqb (length a.f.now) 9) (stored_at (four 1 a.f.now) (four 5 a.f.now) a.list.now) a.list.now a.out.now _ _
    (ne_eqb (length a.f.now) 9 c.if-f-ne9.true) c.malformed.ensures.len c.malformed.ensures.bytes

pub returns-then-list-i : goal.returns-then-list-i
unfolding stored_unit
returns-then-list-i c = let a = c.args in
    stored_out (length a.f.now) 9 (four 1 a.f.now) _ (four 5 a.f.now) a.list.now a.out.now _ _
    c.if-f-ne9.false c.four_at-i.ensures.0 c.if-list-i.true c.malformed-then-list-i.ensures.len c.malformed-then-list-i.ensures.bytes

pub returns : goal.returns
unfolding stored_unit
returns c = let a = c.args in
    stored_in (length a.f.now) 9 (four 1 a.f.now) _ (four 5 a.f.now) a.list.now a.out.now _ _
    c.if-f-ne9.false c.four_at-i.ensures.0 _ c.if-list-i.false c.four_at.ensures.0 c.done_line.ensures.len c.done_line.ensures.bytes
