-- `table_reading::read_words` meets its contract: one word more at each turn.
-- Assumes nothing.
use Prim.Native.Nat.{◌+◌, ◌-◌}
use lib.ListN.{length}
use Rattle.table_reading.proofs.WordsRead.{NameGoing}
use Rattle.table_reading.proofs.read_words.Given as goal

abbrev pub invariant-loop-from : goal.invariant-loop-from
invariant-loop-from l = NameGoing l.image l.sets l.right_sets l.name l.found l.left l.right l.parts l.count l.from

abbrev pub decreases-loop-from : goal.decreases-loop-from
decreases-loop-from l = length l.name + 2 - l.from
