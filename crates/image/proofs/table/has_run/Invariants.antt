-- `image::table::has_run` meets its contract: entries are tested one after the other.
-- Assumes nothing.
use mathlib.Core.Path.{◌≡◌}
use lib.ListN.{drop}
use Rattle.classes.specs.Ordinal.{origin_run}
use Rattle.image.specs.Image.{origins_at}
use Rattle.image.proofs.Origins.{rest_run}
use Rattle.image.proofs.table.has_run.Given as goal

abbrev pub invariant-loop-j : goal.invariant-loop-j
invariant-loop-j l = origins_at (origin_run l.q 0 l.n) (drop l.from l.image) ≡ rest_run l.image l.from l.q l.n l.j
