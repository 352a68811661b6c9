-- The measures of `write_from` and `write_under`, each call of the first by the second having one letter less left, and what the loop keeps.
-- Assumes nothing.
use Rattle.std.proofs.Common.{◌+◌}
use Rattle.readout.proofs.Descent.{Descending}
use Rattle.readout.proofs.writing.+write_from_write_under.Given as goal

abbrev pub decreases-write_from : goal.decreases-write_from
decreases-write_from l = l.left + l.left + 1

abbrev pub decreases-write_under : goal.decreases-write_under
decreases-write_under l = l.left + l.left

abbrev pub invariant-write_under-loop-cell : goal.invariant-write_under-loop-cell
invariant-write_under-loop-cell l = Descending l.words l.q l.initial.path l.depth l.left l.initial.out l.initial.to l.from l.end (l.from + l.cell-index) l.path l.out l.to
