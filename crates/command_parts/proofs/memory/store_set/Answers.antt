-- `command_parts::memory::store_set` meets its contract: one element is stored where its index is inside.
-- Assumes nothing.
use lib.ListN.{length}
use Rattle.command_parts.specs.Fields.{four, eight}
use borrow.Author.Rules.{rules}
use lib.Dec.{eqb}
use borrow.Author.Tests.{ne_eqb}
use Rattle.command_parts.specs.Memory.{stored_at, stored_set}
use Rattle.command_parts.proofs.Replies.{answered_not}
use Rattle.command_parts.proofs.Shown.{stored_out, stored_in}
use Rattle.command_parts.proofs.memory.store_set.Goals as goal

pub returns-then-f-ne13 : goal.returns-then-f-ne13
unfolding stored_set
returns-then-f-ne13 c = let a = c.args in
    answered_not (eqb (length a.f.now) 13) (stored_at (four 1 a.f.now) (eight 5 a.f.now) a.sets.now) a.sets.now a.out.now _ _
    (ne_eqb (length a.f.now) 13 c.if-f-ne13.true) c.malformed.ensures.len c.malformed.ensures.bytes

pub returns-then-sets-i : goal.returns-then-sets-i
unfolding stored_set
returns-then-sets-i c = let a = c.args in
    stored_out (length a.f.now) 13 (four 1 a.f.now) _ (eight 5 a.f.now) a.sets.now a.out.now _ _
    c.if-f-ne13.false c.four_at-i.ensures.0 c.if-sets-i.true c.malformed-then-sets-i.ensures.len c.malformed-then-sets-i.ensures.bytes

pub returns : goal.returns
unfolding stored_set
returns c = let a = c.args in
    stored_in (length a.f.now) 13 (four 1 a.f.now) _ (eight 5 a.f.now) a.sets.now a.out.now _ _
    c.if-f-ne13.false c.four_at-i.ensures.0 _ c.if-sets-i.false c.eight_at.ensures c.done_line.ensures.len c.done_line.ensures.bytes
