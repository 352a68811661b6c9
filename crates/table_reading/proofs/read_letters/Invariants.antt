-- `table_reading::read_letters` meets its contract, by the loop invariant `Gone`: the rules applied so far, then the reading from i, are the whole reading.
-- Assumes nothing.
use Prim.Native.Nat.{◌+◌, ◌-◌}
use mathlib.Core.Path.{◌≡◌}
use lib.ListN.{length}
use Rattle.table_reading.proofs.Choosing.{Gone}
use Rattle.table_reading.proofs.read_letters.Given as goal

abbrev pub invariant-loop-i : goal.invariant-loop-i
invariant-loop-i l = Gone l.image l.sets l.right_sets l.left l.right l.frame l.parts l.count l.i × (length l.parts ≡ length l.initial.parts)

abbrev pub decreases-loop-i : goal.decreases-loop-i
decreases-loop-i l = (length l.frame + 5) - l.i
