-- `table_reading::count_shared` meets its contract. The loop's invariant: those counted and those from word j on are all.
-- Assumes nothing.
use Prim.Native.Nat.{◌+◌, ◌-◌, ◌*◌, ◌≤◌}
use mathlib.Core.Path.{◌≡◌}
use Rattle.tables.specs.SetWords.{ones_from, meet_word}
use Rattle.table_reading.proofs.count_shared.Given as goal

abbrev pub invariant-loop-j : goal.invariant-loop-j
invariant-loop-j l = (l.count ≤ 64 * l.j) × (l.count + ones_from (meet_word l.sets l.s l.t) l.j (8 - l.j) ≡ ones_from (meet_word l.sets l.s l.t) 0 8)
