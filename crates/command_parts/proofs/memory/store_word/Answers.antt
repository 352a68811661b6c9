-- `command_parts::memory::store_word` meets its contract: one element is stored where its index is inside.
-- Assumes nothing.
use lib.ListN.{length}
use Rattle.numbers.specs.Numbers.{two}
use Rattle.command_parts.specs.Fields.{four}
use borrow.Author.Rules.{rules}
use lib.Dec.{eqb}
use borrow.Author.Tests.{ne_eqb}
use Rattle.command_parts.specs.Memory.{stored_at, stored_word}
use Rattle.command_parts.proofs.Replies.{answered_not}
use Rattle.command_parts.proofs.Shown.{stored_out, stored_in}
use Rattle.command_parts.proofs.memory.store_word.Goals as goal

pub returns-then-f-ne7 : goal.returns-then-f-ne7
unfolding stored_word
returns-then-f-ne7 c = let a = c.args in
    answered_not (eqb (length a.f.now) 7) (stored_at (four 1 a.f.now) (two 5 a.f.now) a.words.now) a.words.now a.out.now _ _
    (ne_eqb (length a.f.now) 7 c.if-f-ne7.true) c.malformed.ensures.len c.malformed.ensures.bytes

pub returns-then-words-i : goal.returns-then-words-i
unfolding stored_word
returns-then-words-i c = let a = c.args in
    stored_out (length a.f.now) 7 (four 1 a.f.now) _ (two 5 a.f.now) a.words.now a.out.now _ _
    c.if-f-ne7.false c.four_at-i.ensures.0 c.if-words-i.true c.malformed-then-words-i.ensures.len c.malformed-then-words-i.ensures.bytes

pub returns : goal.returns
unfolding stored_word
returns c = let a = c.args in
    stored_in (length a.f.now) 7 (four 1 a.f.now) _ (two 5 a.f.now) a.words.now a.out.now _ _
    c.if-f-ne7.false c.four_at-i.ensures.0 _ c.if-words-i.false c.two_at.ensures c.done_line.ensures.len c.done_line.ensures.bytes
