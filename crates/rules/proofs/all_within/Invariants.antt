-- `rules::all_within` meets its contract.
-- Assumes nothing.
use mathlib.Core.Path.{◌≡◌}
use lib.ListN.{drop}
use Rattle.rules.specs.Shape.{all_from}
use Rattle.rules.proofs.all_within.Given as goal

abbrev pub invariant-loop-x : goal.invariant-loop-x
invariant-loop-x l = all_from l.hi l.s ≡ all_from l.hi (drop l.x-index l.s)
