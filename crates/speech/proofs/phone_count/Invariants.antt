-- `speech::phone_count` meets its contract: after k parts their phones are counted.
-- Assumes nothing.
use Rattle.rules.specs.Limits.{max_listed_phones}
use Rattle.speech.specs.Places.{part_at}
use Rattle.speech.proofs.Counted.{phone_count, Counted}
use Rattle.speech.proofs.phone_count.Given as goal

abbrev pub invariant-loop-part : goal.invariant-loop-part
invariant-loop-part l = Counted phone_count max_listed_phones (part_at l.rules.bytes.now l.list) l.parts l.part-index l.total
