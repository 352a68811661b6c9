-- `reading::read_word` meets its contract: the part that the list gives, or those of the rules applied to the letters.
-- Assumes nothing.
use lib.ListN.{length}
use Prim.Native.Nat.{◌-◌}
use borrow.Rule.Slice.PartMut.{mid_len}
use Rattle.rules.proofs.Memory.{put_tail}
use Rattle.reading.proofs.Plain.{plain_word}
use Rattle.image.specs.Image.{entries_of, classes_of}
use Rattle.fitting.specs.Reading.{plain}
use Rattle.speech.specs.Words.{word_at}
use Rattle.reading.proofs.WordReading.{part_frame, part_long, part_inside, part_bound, room, listed_part, read_part, ends_most}
use native.Mathlib.Omega.{arith}
use borrow.Author.Rules.{rules}
use Rattle.reading.proofs.read_word.Goals as goal

pub find_word-part-requires : goal.find_word-part-requires
find_word-part-requires c = (c.requires.0, c.requires.2.inside, c.requires.2.ends)

pub bounds-parts-count : goal.bounds-parts-count
bounds-parts-count c = room c.args.rules.bytes.now c.args.list.now c.args.parts.now c.args.count c.args.from c.requires.3 (omega (arith, c.requires.0.sound.short))

pub returns-then-part-ne0 : goal.returns-then-part-ne0
returns-then-part-ne0 c = listed_part c.args.rules.bytes.now c.args.list.now c.args.parts.now c.args.count c.args.from c.requires.3 (omega (arith, c.requires.0.sound.short)) (word_at c.args.name.now c.args.from) c.args.end c.requires.2.ends (plain (classes_of c.args.rules.bytes.now) (entries_of c.args.rules.bytes.now)) _ (omega arith) c.find_word-part.ensures

pub overflow_add-end : goal.overflow_add-end
overflow_add-end c = omega (arith, part_inside c.args.name.now c.args.frame.now c.requires.1 c.args.from c.args.end c.requires.2)

pub slice_bounds-read_letters-end : goal.slice_bounds-read_letters-end
slice_bounds-read_letters-end c = part_inside c.args.name.now c.args.frame.now c.requires.1 c.args.from c.args.end c.requires.2

pub read_letters-read-requires : goal.read_letters-read-requires
read_letters-read-requires c = let l = part_long c.args.name.now c.args.frame.now c.requires.1 c.args.from c.args.end c.requires.2 in let b = part_bound c.args.name.now c.args.frame.now c.requires.1 c.args.from c.args.end c.requires.2 c.requires.0.sound in (omega arith, (omega arith, omega (arith, mid_len c.args.count (length c.args.parts.now - c.args.count) c.args.parts.now (omega (arith, room c.args.rules.bytes.now c.args.list.now c.args.parts.now c.args.count c.args.from c.requires.3 (omega (arith, c.requires.0.sound.short)))), room c.args.rules.bytes.now c.args.list.now c.args.parts.now c.args.count c.args.from c.requires.3 (omega (arith, c.requires.0.sound.short)), c.requires.3.few, c.requires.3.sized)))

pub in_name-requires : goal.in_name-requires
in_name-requires c = (omega (arith, c.requires.3.few, c.requires.2.inside, c.requires.0.sound.short), omega (arith, c.requires.2.inside, c.requires.0.sound.short), ends_most _ 1000 c.read_letters-read.result (plain_word c.args.rules.bytes.now (word_at c.args.name.now c.args.from) _ (part_frame c.args.name.now c.args.frame.now c.requires.1 c.args.from c.args.end c.requires.2) _ _ c.read_letters-read.ensures).0.few (omega (arith, part_bound c.args.name.now c.args.frame.now c.requires.1 c.args.from c.args.end c.requires.2 c.requires.0.sound)))

pub returns : goal.returns
returns c = let r = plain_word c.args.rules.bytes.now (word_at c.args.name.now c.args.from) _ (part_frame c.args.name.now c.args.frame.now c.requires.1 c.args.from c.args.end c.requires.2) _ _ c.read_letters-read.ensures in read_part c.args.rules.bytes.now c.args.list.now c.args.parts.now c.args.count c.args.from c.requires.3 (omega (arith, c.requires.0.sound.short)) (word_at c.args.name.now c.args.from) c.args.end c.requires.2.ends (plain (classes_of c.args.rules.bytes.now) (entries_of c.args.rules.bytes.now)) c.args.rules.sound _ _ (put_tail c.args.count c.args.parts.now _) (search rules) c.read_letters-read.result r.0 (c.find_word-part.ensures.none (omega (arith, c.if-part-ne0.false))) r.1 _ c.in_name.ensures
