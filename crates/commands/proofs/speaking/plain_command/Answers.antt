-- `commands::speaking::plain_command` meets its contract: a frame of 5 bytes or more is a reading, a shorter one is malformed.
-- Assumes nothing.
use Rattle.numbers.specs.Numbers.{two}
use Rattle.answer_lines.proofs.Told.{more_room}
use Rattle.commands.proofs.Lent.{same_room}
use Rattle.speech.specs.Speech.{told_of}
use native.Mathlib.Omega.{arith}
use borrow.Author.Rules.{rules}
use lib.Dec.{leb}
use lib.ListN.{length, drop}
use borrow.Author.Tests.{le-leb, lt-leb}
use Rattle.command_parts.specs.Fields.{lent_of}
use Rattle.commands.specs.Lent.{plain_in, plain_effect, plain_by}
use Rattle.commands.proofs.Spoken.{speech_read}
use Rattle.command_parts.proofs.Replies.{speech_not}
use Rattle.commands.proofs.speaking.plain_command.Goals as goal

pub returns-then-f-lt5 : goal.returns-then-f-lt5
unfolding plain_by
returns-then-f-lt5 c = let a = c.args in
    speech_not (leb 5 (length a.f.now)) (plain_effect (plain_in (lent_of (two 1 a.f.now) (length a.phones.now)) (lent_of (two 3 a.f.now) (length a.numbers.now)) a.image.now a.list.now (drop 5 a.f.now) a.phones.now a.numbers.now) a.contested.now) a.phones.now a.numbers.now a.contested.now a.out.now _ _
    (lt-leb 5 (length a.f.now) c.if-f-lt5.true) c.malformed.ensures.len c.malformed.ensures.bytes

pub contested_after-requires : goal.contested_after-requires
contested_after-requires c = let p = c.plain_lent-speech in more_room (told_of p.result) _ _ 256 64 (omega arith) (omega arith) p.ensures.within

pub plain_line-requires : goal.plain_line-requires
plain_line-requires c = let p = c.plain_lent-speech in (omega arith, (omega arith, (omega arith, same_room (told_of p.result) _ _ _ _ p.auto.phones p.auto.numbers p.ensures.within)))

pub returns : goal.returns
unfolding plain_by
returns c = let a = c.args in
    let p = c.plain_lent-speech in
    speech_read (leb 5 (length a.f.now)) a.phones.now a.numbers.now a.contested.now a.out.now _ _ (le-leb 5 (length a.f.now) c.if-f-lt5.false) _ _ _
    (told_of p.result) c.contested_after.ensures (plain_in (lent_of (two 1 a.f.now) (length a.phones.now)) (lent_of (two 3 a.f.now) (length a.numbers.now)) a.image.now a.list.now (drop 5 a.f.now) a.phones.now a.numbers.now)
    p.ensures.said (c.plain_line.ensures.len, c.plain_line.ensures.bytes)
