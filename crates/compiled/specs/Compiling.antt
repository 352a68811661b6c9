-- The compiled ruleset as a struct of lent slices: the lent tables with their state counts as read from the words (document 01, "The walk").
-- Assumes nothing.
use Rattle.std.specs.Prelude.{List, ℕ}
use Rattle.std.specs.Borrow.{Bor}
use Rattle.tables.specs.Words.{left_count, right_count}
use Rattle.passes.specs.declared.Compiled.{Compiled}

abbrev pub compiled_of : Bor (List ℕ) → Bor (List ℕ) → Compiled
compiled_of w s = record { words = w; sets = s; left_states = left_count w.now; right_states = right_count w.now }
