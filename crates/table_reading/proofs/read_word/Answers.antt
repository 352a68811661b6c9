-- `table_reading::read_word` meets its contract: the part of a listed word, or the rules chosen for the letters of its part of the frame.
-- Assumes nothing.
use Prim.Native.Nat.{◌+◌, ◌-◌}
use lib.ListN.{length}
use borrow.Rule.Slice.PartMut.{mid_len}
use Rattle.rules.proofs.Memory.{put_tail}
use Rattle.reading.proofs.WordReading.{ends_most}
use Rattle.table_reading.specs.Letters.{choices_by, suffix, between}
use Rattle.table_reading.proofs.WordsRead.{word-listed, word_letters, between_long}
use native.Mathlib.Omega.{arith}
use borrow.Author.Rules.{rules}
use Rattle.table_reading.proofs.read_word.Goals as goal

pub returns-then-part-ne0 : goal.returns-then-part-ne0
returns-then-part-ne0 c = word-listed c.args.image.now (choices_by c.args.image.now c.args.sets.now c.args.right_sets (suffix c.args.from c.args.left.now) (suffix c.args.from c.args.right.now) (between c.args.from (c.args.end + 1) c.args.frame.now)) (length (between c.args.from (c.args.end + 1) c.args.frame.now) - 2) c.args.count c.args.from c.args.part c.args.parts.now (omega arith)

pub read_letters-read-requires : goal.read_letters-read-requires
read_letters-read-requires c = let l = between_long c.args.from (c.args.end + 1) c.args.frame.now c.requires.2 in (c.requires.0, omega (arith, c.requires.1), omega (arith, c.requires.3), c.requires.4 (omega (arith, c.if-part-ne0.false)), omega (arith, mid_len c.args.count (length c.args.parts.now) c.args.parts.now (omega arith), c.requires.1, c.requires.2, c.requires.3, c.requires.7, c.requires.8))

pub in_name-requires : goal.in_name-requires
in_name-requires c = let l = between_long c.args.from (c.args.end + 1) c.args.frame.now c.requires.2 in (omega (arith, c.requires.1, c.requires.2, c.requires.3, c.requires.8), omega (arith, c.requires.1, c.requires.2, c.requires.3), ends_most _ 1000 c.read_letters-read.result c.read_letters-read.ensures.placed.few (omega (arith, c.requires.2, c.requires.3)))

pub returns : goal.returns
returns c = word_letters c.args.image.now (choices_by c.args.image.now c.args.sets.now c.args.right_sets (suffix c.args.from c.args.left.now) (suffix c.args.from c.args.right.now) (between c.args.from (c.args.end + 1) c.args.frame.now)) (length (between c.args.from (c.args.end + 1) c.args.frame.now) - 2) c.args.count c.args.from c.args.part c.args.parts.now _ _ c.read_letters-read.result _ (omega (arith, c.if-part-ne0.false)) (put_tail c.args.count c.args.parts.now _) (search rules) c.read_letters-read.ensures c.in_name.ensures
