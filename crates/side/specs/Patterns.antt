-- The patterns of one side, as they lie in two lists: pattern i has ls[i] symbols of ps, from max_pattern i on.
-- Assumes nothing.
use Rattle.std.specs.Prelude.{ℕ, zero, suc, ◌*◌, ◌≤◌, ◌<◌, List, [], ◌∷◌, ◌++◌, length, get_or, take, drop}
use Rattle.rules.specs.Limits.{max_rules, max_pattern}
use Rattle.tables.specs.Words.{row_size}
use Rattle.fitting.specs.Fitting.{Str}
use Rattle.tables.specs.States.{states}

abbrev pub pattern_at : List ℕ → List ℕ → ℕ → Str
pattern_at ps ls i = take (get_or ls i 0) (drop (max_pattern * i) ps)

unfoldable pub patterns_of : List ℕ → List ℕ → ℕ → List Str
patterns_of ps ls zero = []
patterns_of ps ls (suc n) = patterns_of ps ls n ++ (pattern_at ps ls n ∷ [])

-- n patterns
pub record Patterns (ps ls : List ℕ) (n : ℕ) : Type 0 where
  pub few : n ≤ max_rules
  pub room : max_pattern * n ≤ length ps
  pub lens : n ≤ length ls
  pub short : (i : ℕ) → i < n → get_or ls i 0 ≤ max_pattern
  pub small : (k : ℕ) → k < max_pattern * n → get_or ps k 0 < row_size

-- how many states the first n patterns have
abbrev pub state_count : List ℕ → List ℕ → ℕ → ℕ
state_count ps ls n = length (states (patterns_of ps ls n))
