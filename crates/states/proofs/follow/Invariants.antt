-- `states::follow` meets its contract: the states passed stand in the path, each the successor of the one before.
-- Assumes nothing.
use mathlib.Core.Path.{◌≡◌}
use lib.ListN.{length}
use Rattle.states.proofs.Puts.{Tracing}
use Rattle.states.proofs.follow.Given as goal

abbrev pub invariant-loop-i : goal.invariant-loop-i
invariant-loop-i l = Tracing l.words l.n l.name l.path l.q l.i × (length l.path ≡ length l.initial.path)
