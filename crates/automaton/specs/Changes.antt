-- One change on sound rows: rows added after the others, the rows before them kept, and what is said from the new start.
-- Assumes nothing.
use Rattle.std.specs.Prelude.{◌≡◌, ℕ, suc, ◌+◌, ◌≤◌, ◌<◌, length, get_or}
use Rattle.automaton.specs.Automaton.{Str, Rows, look, Letters, Alike, Sound, changed}

-- g has f's rows up to n
abbrev pub Keeps : Rows → Rows → ℕ → Type 0
Keeps f g n = (q k : ℕ) → q ≤ n → k < 86 → g q k ≡ f q k

-- 0 to 22 groups of phones, each a number above 0 of 24 bits
pub record Phones (p : Str) : Type 0 where
  pub few : length p ≤ 22
  pub sounded : (k : ℕ) → k < length p → 0 < get_or p k 0
  pub bytes : (k : ℕ) → k < length p → get_or p k 0 < 16777216

-- the row after n is a row that may be a state: f's row q with the successor under c replaced by r
pub record WithSuccessor (f g : Rows) (n q c r : ℕ) : Type 0 where
  pub keeps : Keeps f g n
  pub there : g (suc n) c ≡ r
  pub others : (k : ℕ) → k < 86 → (k ≡ c → ⊥) → g (suc n) k ≡ f q k

-- the row after n is f's row q with the phones p
pub record WithPhones (f g : Rows) (n q : ℕ) (p : Str) : Type 0 where
  pub keeps : Keeps f g n
  pub there : (k : ℕ) → k < 22 → g (suc n) (64 + k) ≡ get_or p k 0
  pub others : (k : ℕ) → k < 64 → g (suc n) k ≡ f q k

-- i is the first row that holds what row t does
pub record First (g : Rows) (t i : ℕ) : Type 0 where
  pub within : i ≤ t
  pub alike : Alike g i t
  pub none : (j : ℕ) → j < i → Alike g j t → ⊥

-- rows g to m with start r: f's rows to n with start q, with phones p for the name
pub record Put (f : Rows) (n q : ℕ) (name p : Str) (g : Rows) (m r : ℕ) : Type 0 where
  pub least : n ≤ m
  pub most : m ≤ n + suc (length name)
  pub root : r ≤ m
  pub sound : Sound g m
  pub keeps : Keeps f g n
  pub says : (w : Str) → Letters w → look g r w ≡ changed name p (look f q) w
