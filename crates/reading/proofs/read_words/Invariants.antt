-- `reading::read_words` meets its contract: one word more at each turn.
-- Assumes nothing.
use Prim.Native.Nat.{◌+◌, ◌-◌}
use lib.ListN.{length}
use Rattle.exceptions.specs.Judging.{says_of}
use Rattle.image.specs.Image.{entries_of, classes_of}
use Rattle.fitting.specs.Reading.{plain}
use Rattle.reading.proofs.NameReading.{WordsRead}
use Rattle.reading.proofs.read_words.Given as goal

abbrev pub invariant-loop-from : goal.invariant-loop-from
invariant-loop-from l = WordsRead l.rules.bytes.now l.list (says_of l.list) (plain (classes_of l.rules.bytes.now) (entries_of l.rules.bytes.now)) l.name l.parts l.count l.from

abbrev pub decreases-loop-from : goal.decreases-loop-from
decreases-loop-from l = length l.name + 2 - l.from
