-- `commands::speaking::walk_command` meets its contract: a frame of 13 bytes or more is a walk, a shorter one is malformed.
-- Assumes nothing.
use Rattle.numbers.specs.Numbers.{two}
use Rattle.answer_lines.proofs.Told.{more_room}
use Rattle.commands.proofs.Lent.{same_room}
use Rattle.speech.specs.Speech.{told_of}
use native.Mathlib.Omega.{arith}
use borrow.Author.Rules.{rules}
use lib.Dec.{leb}
use lib.ListN.{length, take, drop}
use borrow.Author.Tests.{le-leb, lt-leb}
use Rattle.command_parts.specs.Fields.{four, lent_of}
use Rattle.commands.specs.Lent.{walk_in, walk_effect, walked_by}
use Rattle.commands.proofs.Spoken.{speech_walked}
use Rattle.command_parts.proofs.Replies.{speech_not}
use Rattle.commands.proofs.speaking.walk_command.Goals as goal

pub returns-then-f-lt13 : goal.returns-then-f-lt13
unfolding walked_by
returns-then-f-lt13 c = let a = c.args in
    speech_not (leb 13 (length a.f.now)) (walk_effect (walk_in (lent_of (two 9 a.f.now) (length a.phones.now)) (lent_of (two 11 a.f.now) (length a.numbers.now)) a.image.now a.list.now (take (lent_of (four 1 a.f.now) (length a.words.now)) a.words.now) (take (lent_of (four 5 a.f.now) (length a.sets.now)) a.sets.now) (drop 13 a.f.now) a.phones.now a.numbers.now) a.contested.now) a.phones.now a.numbers.now a.contested.now a.out.now _ _
    (lt-leb 13 (length a.f.now) c.if-f-lt13.true) c.malformed.ensures.len c.malformed.ensures.bytes

pub contested_after-requires : goal.contested_after-requires
contested_after-requires c = let p = c.walk_lent-answer in more_room (told_of p.result.speech) _ _ 256 64 (omega arith) (omega arith) p.ensures.within

pub walk_line-requires : goal.walk_line-requires
walk_line-requires c = let h = c.requires in let p = c.walk_lent-answer in (omega (arith, h.0), (omega (arith, h.1.0), (omega (arith, h.1.1), same_room (told_of p.result.speech) _ _ _ _ p.auto.phones p.auto.numbers p.ensures.within)))

pub returns : goal.returns
unfolding walked_by
returns c = let a = c.args in
    let p = c.walk_lent-answer in
    speech_walked (leb 13 (length a.f.now)) a.phones.now a.numbers.now a.contested.now a.out.now _ _ (le-leb 13 (length a.f.now) c.if-f-lt13.false) _ _ _
    (told_of p.result.speech) c.contested_after.ensures (walk_in (lent_of (two 9 a.f.now) (length a.phones.now)) (lent_of (two 11 a.f.now) (length a.numbers.now)) a.image.now a.list.now (take (lent_of (four 1 a.f.now) (length a.words.now)) a.words.now) (take (lent_of (four 5 a.f.now) (length a.sets.now)) a.sets.now) (drop 13 a.f.now) a.phones.now a.numbers.now) p.result.steps
    p.ensures.walked (c.walk_line.ensures.len, c.walk_line.ensures.bytes)
