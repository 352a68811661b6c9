-- The loop over the entries of a row: where there is no child, the entry of the failure state.
-- Assumes nothing.
use Prim.Native.Nat.{◌*◌}
use Rattle.tables.specs.Words.{row_size}
use Rattle.side.specs.Wrote.{Wrote}
use Rattle.side.specs.Steps.{completed}
use Rattle.side.proofs.complete_row.Given as goal

abbrev pub invariant-loop-c : goal.invariant-loop-c
invariant-loop-c l = Wrote l.initial.rows (row_size * l.q) l.c (completed l.initial.rows l.q l.f) l.rows
