-- `image::table::put_run` meets its contract: entries are laid one after the other.
-- Assumes nothing.
use mathlib.Core.Path.{◌≡◌}
use lib.ListN.{length}
use Rattle.image.proofs.Settling.{laid_run}
use Rattle.image.proofs.table.put_run.Given as goal

abbrev pub invariant-loop-j : goal.invariant-loop-j
invariant-loop-j l = (l.image ≡ laid_run l.initial.image l.from l.q l.j) × (length l.image ≡ length l.initial.image)
