-- What counting the names asks and gives.
-- Assumes nothing.
use Rattle.std.specs.Prelude.{◌≡◌, ℕ, ◌+◌, ◌≤◌, ◌<◌, min, List, [], length, get_or}
use Rattle.automaton.specs.Automaton.{Str, Rows, rows_of, Laid, look, Letters, Sound}
use Rattle.automaton.specs.Totals.{total}

-- the count at x, 0 for the blank state
pub record Looked (counts : List ℕ) (x r : ℕ) : Type 0 where
  pub none : x ≡ 0 → r ≡ 0
  pub some : (x ≡ 0 → ⊥) → r ≡ get_or counts x 0

-- the counts of the states before q are there, none above 1,001
abbrev pub Counted : Rows → ℕ → List ℕ → Type 0
Counted f q counts = (x : ℕ) → x < q → get_or counts x 0 ≡ min 1001 (total f x)

pub record CountAsks (ws : List ℕ) (n q : ℕ) (counts : List ℕ) : Type 0 where
  pub sound : Sound (rows_of ws) n
  pub states : n ≤ 4096
  pub laid : Laid ws n
  pub room : n + 1 ≤ length counts
  pub inside : q ≤ n
  pub counted : Counted (rows_of ws) q counts

-- the longest name from state q has d letters
pub record Longest (f : Rows) (q d : ℕ) : Type 0 where
  pub most : (w : Str) → Letters w → (look f q w ≡ [] → ⊥) → length w ≤ d
  pub some : 0 < q → (w : Str) × Letters w × (look f q w ≡ [] → ⊥) × (length w ≡ d)

-- v is the length of the longest name, 65 where it is more
pub record Depth (f : Rows) (q v : ℕ) : Type 0 where
  pub depth : ℕ
  pub longest : Longest f q depth
  pub capped : v ≡ min 65 depth

pub record DeepAsks (ws : List ℕ) (n q : ℕ) (depths : List ℕ) : Type 0 where
  pub sound : Sound (rows_of ws) n
  pub states : n ≤ 4096
  pub laid : Laid ws n
  pub room : n + 1 ≤ length depths
  pub inside : q ≤ n
  pub measured : (x : ℕ) → x < q → Depth (rows_of ws) x (get_or depths x 0)

-- a name from the start is at most 64 letters long
abbrev pub Short : Rows → ℕ → Type 0
Short f n = (w : Str) → Letters w → (look f n w ≡ [] → ⊥) → length w ≤ 64

-- one more than the depth at x, 0 for the blank state
pub record Under (depths : List ℕ) (x r : ℕ) : Type 0 where
  pub none : x ≡ 0 → r ≡ 0
  pub some : (x ≡ 0 → ⊥) → r ≡ get_or depths x 0 + 1
