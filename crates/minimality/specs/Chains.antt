-- Rows in chains by a key of what they hold: rows with different keys differ, so a row is compared with those of its chain alone.
-- Assumes nothing.
use Rattle.std.specs.Prelude.{◌≡◌, ℕ, ◌+◌, ◌-◌, ◌*◌, ◌%◌, ◌≤◌, ◌<◌, List, [], ◌∷◌, length, get_or}
use Rattle.automaton.specs.Automaton.{cells_of, rows_of, Laid, Alike}

abbrev pub hash : ℕ → List ℕ → ℕ
hash h [] = h
hash h (x ∷ l) = hash ((h * 31 + x) % 4093) l

-- the key of cells
unfoldable pub key_of : List ℕ → ℕ
key_of l = hash 0 l

-- x is one more than the last row before b with the key h, and 0 where there is none
pub record LastWith (ws : List ℕ) (b h x : ℕ) : Type 0 where
  pub within : x ≤ b
  pub same : 0 < x → key_of (cells_of ws (x - 1)) ≡ h
  pub all : (j : ℕ) → j < b → key_of (cells_of ws j) ≡ h → j + 1 ≤ x

-- each row before t is linked to the last one before it with its key
abbrev pub Linked : List ℕ → ℕ → List ℕ → Type 0
Linked ws t links = (i : ℕ) → i < t → LastWith ws i (key_of (cells_of ws i)) (get_or links i 0)

-- for each key the last row before t with it
abbrev pub Headed : List ℕ → ℕ → List ℕ → Type 0
Headed ws t heads = (h : ℕ) → h < 4093 → LastWith ws t h (get_or heads h 0)

-- no row before t is like it
abbrev pub Fresh : List ℕ → ℕ → Type 0
Fresh ws t = (j : ℕ) → j < t → Alike (rows_of ws) j t → ⊥

pub record WalkAsks (ws links : List ℕ) (t from : ℕ) : Type 0 where
  pub laid : Laid ws t
  pub room : t ≤ length links
  pub linked : Linked ws t links
  pub start : LastWith ws t (key_of (cells_of ws t)) from

pub record ApartAsks (ws heads links : List ℕ) (n : ℕ) : Type 0 where
  pub laid : Laid ws n
  pub keys : 4093 ≤ length heads
  pub room : n + 1 ≤ length links
