-- `measures::count_names` meets its contract.
-- Assumes nothing.
use Rattle.measures.specs.Measures.{Counted}
use Rattle.automaton.specs.Automaton.{rows_of}
use lib.ListN.{length}
use mathlib.Core.Path.{◌≡◌}
use Prim.Native.Nat.{◌≤◌}
use Rattle.measures.proofs.count_names.Given as goal

abbrev pub invariant-loop-q : goal.invariant-loop-q
invariant-loop-q l = (l.q ≤ l.n) × Counted (rows_of l.words) l.q l.counts × (length l.counts ≡ length l.initial.counts)
