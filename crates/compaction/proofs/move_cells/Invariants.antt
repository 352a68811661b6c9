-- `compaction::move_cells` meets its contract.
-- Assumes nothing.
use Rattle.compaction.specs.Compaction.{new_cell, moved_of}
use Rattle.states.specs.States.{Written}
use Rattle.states.proofs.Rows.{written_begin, written_next, written_end}
use Rattle.automaton.specs.Automaton.{key_of, val_of}
use lib.ListN.{length}
use mathlib.Core.Path.{◌≡◌, subst, sym, ap, ◌∙◌}
use Prim.Native.Nat.{ℕ, ◌≤◌, ◌-◌, ◌<◌, ◌+◌}
use native.Mathlib.Omega.{arith}
use borrow.Author.Rules.{rules}
use Rattle.compaction.proofs.move_cells.Given as goal

abbrev pub invariant-loop-j : goal.invariant-loop-j
invariant-loop-j l = (l.j ≤ l.len) × Written (moved_of l.marks l.initial.words l.a) l.b l.j l.initial.words l.words
