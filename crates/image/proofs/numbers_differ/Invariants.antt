-- `image::numbers_differ` meets its contract.
-- Assumes nothing.
use lib.ListN.{length}
use Rattle.image.proofs.Scan.{Seen}
use Rattle.image.proofs.numbers_differ.Given as goal

abbrev pub invariant-loop-i : goal.invariant-loop-i
invariant-loop-i l = Seen l.image l.count l.i (length l.initial.seen) l.seen
