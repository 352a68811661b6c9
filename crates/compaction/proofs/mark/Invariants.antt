-- `compaction::mark` meets its contract.
-- Assumes nothing.
use Rattle.compaction.proofs.Marks.{spread_end}
use Rattle.compaction.proofs.Marks.{spread_begin, spread_next, asks_kept}
use Rattle.compaction.specs.Compaction.{Spread}
use lib.ListN.{length, set, length-set}
use mathlib.Core.Path.{◌≡◌, refl, ◌∙◌}
use Prim.Native.Nat.{◌≤◌, ◌+◌}
use native.Mathlib.Omega.{arith}
use borrow.Author.Rules.{rules}
use Rattle.compaction.proofs.mark.Given as goal

abbrev pub invariant-loop-i : goal.invariant-loop-i
invariant-loop-i l = (l.i ≤ l.top + 1) × Spread l.words l.top l.i l.marks × (length l.marks ≡ length l.initial.marks)
