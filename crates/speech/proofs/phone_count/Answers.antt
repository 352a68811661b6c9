-- `speech::phone_count` meets its contract: after k parts their phones are counted.
-- Assumes nothing.
use mathlib.Core.Path.{refl}
use native.Mathlib.Omega.{arith}
use lib.ListN.{length}
use Rattle.rules.specs.Limits.{max_listed_phones}
use Rattle.speech.specs.Places.{part_at}
use Rattle.speech.specs.Speech.{phones_in}
use Rattle.speech.proofs.Counted.{phone_count, phones_sum, counted_begin, counted_next, counted_end}
use Rattle.speech.proofs.phone_count.Goals as goal

pub loop-part-init : goal.loop-part-init
loop-part-init c = counted_begin phone_count (λ x. length (phones_in x)) phones_sum max_listed_phones (part_at c.args.rules.bytes.now c.args.list.now) c.args.parts.now

pub part_phones-total-requires : goal.part_phones-total-requires
part_phones-total-requires c = c.requires.1 c.loop-part.part-index (omega arith)

pub overflow_add-total : goal.overflow_add-total
overflow_add-total c = omega (arith, c.loop-part.invariant.small, c.requires.0, c.part_phones-total.ensures.1)

pub loop-part-preserved : goal.loop-part-preserved
loop-part-preserved c = let a = c.args in
    let l = c.loop-part in
    counted_next phone_count (λ x. length (phones_in x)) phones_sum max_listed_phones (part_at a.rules.bytes.now a.list.now) a.parts.now l.part-index l.total _ l.invariant (omega arith) _ refl c.part_phones-total.ensures.0 c.part_phones-total.ensures.1

pub returns : goal.returns
returns c = counted_end phone_count (λ x. length (phones_in x)) phones_sum max_listed_phones (part_at c.args.rules.bytes.now c.args.list.now) c.args.parts.now c.loop-part.part-index c.loop-part.total c.loop-part.invariant (omega arith)
