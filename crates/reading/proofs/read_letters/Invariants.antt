-- `reading::read_letters` meets its contract: one rule more at each turn.
-- Assumes nothing.
use Prim.Native.Nat.{◌+◌, ◌-◌}
use lib.ListN.{length}
use Rattle.reading.proofs.Plain.{Plainly}
use Rattle.reading.proofs.read_letters.Given as goal

abbrev pub invariant-loop-i : goal.invariant-loop-i
invariant-loop-i l = Plainly l.rules.bytes.now l.frame l.parts l.k l.i

abbrev pub decreases-loop-i : goal.decreases-loop-i
decreases-loop-i l = length l.frame + 3 - l.i
