-- What it is for lent words to be a list, and what the functions that judge them give.
-- Assumes nothing.
use Rattle.std.specs.Prelude.{◌≡◌, ℕ, suc, ◌+◌, ◌≤◌, ◌<◌, Bool, true, false, List, [], ◌∷◌, length, get_or}
use Rattle.automaton.specs.Automaton.{Rows, key_of, val_of, cells_of, rows_of, Laid, Alike, Sound, Needed}

-- the claim holds just when the answer is true
pub record Decides (P : Type 0) (r : Bool) : Type 0 where
  pub yes : r ≡ true → P
  pub no : r ≡ false → P → ⊥

abbrev pub Rising : List ℕ → ℕ → Type 0
Rising ws n = (q : ℕ) → q ≤ n → get_or ws q 0 ≤ get_or ws (suc q) 0

-- the cells lie in the words, one state's after another's, and the blank state has none
pub record Offsets (ws : List ℕ) (n : ℕ) : Type 0 where
  pub start : get_or ws 0 0 ≡ 4200
  pub blank : get_or ws 1 0 ≡ 4200
  pub inside : get_or ws (suc n) 0 ≤ length ws
  pub rising : Rising ws n

-- x may stand in row q after cells of places below lo: its place is no less, something stands there, a successor is before q,
-- phones follow one another from place 64 on
pub record CellGood (q lo x : ℕ) : Type 0 where
  pub low : lo ≤ key_of x
  pub high : key_of x < 86
  pub some : 0 < val_of x
  pub earlier : key_of x < 64 → val_of x < q
  pub after : 64 < key_of x → key_of x ≡ lo

abbrev pub Good : ℕ → ℕ → List ℕ → Type 0
Good q lo [] = Unit {0}
Good q lo (x ∷ l) = CellGood q lo x × Good q (suc (key_of x)) l

abbrev pub RowsGood : List ℕ → ℕ → Type 0
RowsGood ws n = (q : ℕ) → q ≤ n → Good q 1 (cells_of ws q)

abbrev pub Apart : Rows → ℕ → Type 0
Apart f n = (i j : ℕ) → i ≤ n → j ≤ n → Alike f i j → i ≡ j

-- the words are a minimal automaton with start n, every state needed
pub record Listed (ws : List ℕ) (n : ℕ) : Type 0 where
  pub laid : Laid ws n
  pub sound : Sound (rows_of ws) n
  pub needed : Needed (rows_of ws) n

pub record ListAsks (ws heads links : List ℕ) (n : ℕ) : Type 0 where
  pub states : n < 4180
  pub memory : 4200 ≤ length ws
  pub small : length ws ≤ 16777216
  pub keys : 4093 ≤ length heads
  pub room : n + 1 ≤ length links
