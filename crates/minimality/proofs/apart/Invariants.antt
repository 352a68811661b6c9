-- `minimality::apart` meets its contract.
-- Assumes nothing.
use Rattle.minimality.proofs.Keys.{Chaining}
use lib.ListN.{length}
use mathlib.Core.Path.{◌≡◌}
use Rattle.minimality.proofs.apart.Given as goal

abbrev pub invariant-loop-t : goal.invariant-loop-t
invariant-loop-t l = Chaining l.words l.n l.t l.heads l.links × (length l.heads ≡ length l.initial.heads) × (length l.links ≡ length l.initial.links)
