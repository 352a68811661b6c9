-- `table_reading::lowest_of_all` meets its contract. The loop's invariant: the lowest place from word j on is the lowest from word k on, and word k has one
-- unless all words are passed.
-- Assumes nothing.
use mathlib.Core.Path.{◌≡◌}
use Prim.Native.Nat.{ℕ, ◌-◌, ◌≤◌, ◌<◌}
use mathlib.Core.Option.{Option}
use lib.Count.{count_trailing_zeros}
use Rattle.tables.specs.Words.{set_size}
use Rattle.tables.specs.SetWords.{lowest_from, meet_word}
use Rattle.table_reading.proofs.lowest_of_all.Given as goal

-- the lowest place from word j on
abbrev pub lowest_at : (ℕ → ℕ) → ℕ → Option ℕ
lowest_at a j = lowest_from a j (set_size - j)

abbrev pub invariant-loop-j : goal.invariant-loop-j
invariant-loop-j l = (l.j ≤ set_size) × (lowest_at (meet_word l.sets l.s l.t) l.j ≡ lowest_at (meet_word l.sets l.s l.t) l.k) × (l.k < set_size → count_trailing_zeros 64 (meet_word l.sets l.s l.t l.k) < 64)
