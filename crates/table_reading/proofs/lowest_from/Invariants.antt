-- `table_reading::lowest_from` meets its contract. The loop's invariant: the lowest shared place is the lowest from word j on.
-- Assumes nothing.
use mathlib.Core.Path.{◌≡◌}
use Prim.Native.Nat.{◌-◌}
use Rattle.tables.specs.SetWords.{lowest_from, meet_word}
use Rattle.table_reading.proofs.lowest_from.Given as goal

abbrev pub invariant-loop-j : goal.invariant-loop-j
invariant-loop-j l = lowest_from (meet_word l.sets l.s l.t) 0 8 ≡ lowest_from (meet_word l.sets l.s l.t) l.j (8 - l.j)
