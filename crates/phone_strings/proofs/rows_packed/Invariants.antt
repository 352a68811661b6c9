-- `phone_strings::rows_packed` meets its contract.
-- Assumes nothing.
use Rattle.phone_strings.specs.Packed.{Packed}
use Rattle.minimality.proofs.Scan.{AllTo}
use Rattle.automaton.specs.Automaton.{rows_of}
use Prim.Native.Nat.{◌≤◌, ◌+◌}
use Rattle.phone_strings.proofs.rows_packed.Given as goal

abbrev pub invariant-loop-q : goal.invariant-loop-q
invariant-loop-q l = (l.q ≤ l.n + 1) × AllTo (Packed (rows_of l.words)) l.q
