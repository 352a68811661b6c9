-- `speech::write_parts` meets its contract: after k parts their phones and their numbers are written, and their contested letters counted.
-- Assumes nothing.
use mathlib.Core.Path.{refl}
use native.Mathlib.Omega.{arith}
use lib.ListN.{get_or}
use Rattle.speech.specs.Places.{part_at}
use Rattle.speech.specs.Speech.{phones_in, phones_of, numbers_in, numbers_of, contested_in, contested_of}
use Rattle.speech.proofs.Written.{phones_gather, numbers_gather, written_begin, written_next, written_room, written_count, written_end}
use Rattle.speech.proofs.Counted.{contested_sum, contested_least, counted_begin, counted_next, counted_end}
use Rattle.speech.proofs.write_parts.Goals as goal

pub loop-part-init : goal.loop-part-init
loop-part-init c = let f = part_at c.args.rules.bytes.now c.args.list.now in (
  written_begin phones_of phones_in phones_gather f c.args.parts.now _,
  written_begin numbers_of numbers_in numbers_gather f c.args.parts.now _,
  counted_begin contested_of contested_in contested_sum 1 f c.args.parts.now,
)

pub write_part-given-requires : goal.write_part-given-requires
write_part-given-requires c = let l = c.loop-part in
    let f = part_at c.args.rules.bytes.now c.args.list.now in (
      c.requires.1 l.part-index (omega arith),
      written_room phones_of phones_in phones_gather f c.args.parts.now c.args.phones.now l.phones l.part-index l.given.phones l.invariant.0 c.requires.2 (omega arith),
      written_room numbers_of numbers_in numbers_gather f c.args.parts.now c.args.numbers.now l.numbers l.part-index l.given.numbers l.invariant.1 c.requires.3 (omega arith),
      omega (arith, l.invariant.2.small, c.requires.0),
    )

pub loop-part-preserved : goal.loop-part-preserved
loop-part-preserved c = let l = c.loop-part in
    let w = c.write_part-given.ensures in
    let f = part_at c.args.rules.bytes.now c.args.list.now in (
      written_next phones_of phones_in phones_gather f c.args.parts.now c.args.phones.now l.phones l.part-index l.given.phones l.invariant.0 (omega arith) _ _ w.phone w.phones-are,
      written_next numbers_of numbers_in numbers_gather f c.args.parts.now c.args.numbers.now l.numbers l.part-index l.given.numbers l.invariant.1 (omega arith) _ _ w.number w.numbers-are,
      counted_next contested_of contested_in contested_sum 1 f c.args.parts.now l.part-index l.given.contested (contested_in (f (get_or c.args.parts.now l.part-index 0))) l.invariant.2 (omega arith) _ w.contested refl (contested_least (f (get_or c.args.parts.now l.part-index 0))),
    )

pub returns : goal.returns
returns c = let l = c.loop-part in
    let f = part_at c.args.rules.bytes.now c.args.list.now in
    record {
      given = record {
        phones = written_count phones_of phones_in phones_gather f c.args.parts.now c.args.phones.now l.phones l.part-index l.given.phones l.invariant.0 (omega arith);
        numbers = written_count numbers_of numbers_in numbers_gather f c.args.parts.now c.args.numbers.now l.numbers l.part-index l.given.numbers l.invariant.1 (omega arith);
        contested = counted_end contested_of contested_in contested_sum 1 f c.args.parts.now l.part-index l.given.contested l.invariant.2 (omega arith);
      };
      phones = written_end phones_of phones_in phones_gather f c.args.parts.now c.args.phones.now l.phones l.part-index l.given.phones l.invariant.0 (omega arith);
      numbers = written_end numbers_of numbers_in numbers_gather f c.args.parts.now c.args.numbers.now l.numbers l.part-index l.given.numbers l.invariant.1 (omega arith);
    }
