-- `speech::write_parts` meets its contract: after k parts their phones and their numbers are written, and their contested letters counted.
-- Assumes nothing.
use Rattle.speech.specs.Places.{part_at}
use Rattle.speech.specs.Speech.{phones_of, numbers_of, contested_of}
use Rattle.speech.proofs.Written.{Written}
use Rattle.speech.proofs.Counted.{Counted}
use Rattle.speech.proofs.write_parts.Given as goal

abbrev pub invariant-loop-part : goal.invariant-loop-part
invariant-loop-part l = Written phones_of (part_at l.rules.bytes.now l.list) l.parts l.initial.phones l.phones l.part-index l.given.phones × Written numbers_of (part_at l.rules.bytes.now l.list) l.parts l.initial.numbers l.numbers l.part-index l.given.numbers
    × Counted contested_of 1 (part_at l.rules.bytes.now l.list) l.parts l.part-index l.given.contested
