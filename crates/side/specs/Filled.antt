-- What is left of one side: its rows and its sets.
-- Assumes nothing.
use Rattle.std.specs.Prelude.{◌≡◌, ◌⊎◌, ℕ, zero, suc, ◌+◌, ◌*◌, ◌/◌, ◌%◌, ◌≤◌, ◌<◌, Bool, false, List, [], ◌∷◌, length, get_or, take}
use Rattle.fitting.specs.Fitting.{Str, same, ends}
use Rattle.tables.specs.States.{states, entry, index, child}
use Rattle.tables.specs.Words.{pack, tab, row_size, set_size}
use Rattle.side.specs.Wrote.{Wrote}
use Rattle.side.specs.Steps.{cell, completed, united}

-- the pattern at place p passes the test
abbrev pub at_place : (Str → Bool) → List Str → ℕ → Bool
at_place t [] p = false
at_place t (s ∷ l) zero = t s
at_place t (s ∷ l) (suc p) = at_place t l p

-- the places of the patterns that are s, and of those that end s
abbrev pub owns : List Str → Str → ℕ → Bool
owns pats s = at_place (λ x. same x s) pats

abbrev pub holds : List Str → Str → ℕ → Bool
holds pats s = at_place (λ x. ends x s) pats

-- word j of a set
abbrev pub word : (ℕ → Bool) → ℕ → ℕ
word f j = pack (λ b. f (64 * j + b)) 64

-- the rows and the sets of a list of patterns
abbrev pub side_rows : List Str → List ℕ
side_rows pats = tab (row_size * length (states pats)) (λ k. entry (states pats) (k / row_size) (k % row_size))

abbrev pub side_sets : List Str → List ℕ
side_sets pats = tab (set_size * length (states pats)) (λ k. word (holds pats (get_or (states pats) (k / set_size) [])) (k % set_size))

module _ (pats : List Str) (rows sets : List ℕ) where
  abbrev st : List Str
  st = states pats

  -- the row and the set of q are finished
  pub record Final (q : ℕ) : Type 0 where
    pub row : (c : ℕ) → c < row_size → cell rows q c ≡ entry st q c
    pub set : (j : ℕ) → j < set_size → get_or sets (set_size * q + j) 0 ≡ word (holds pats (get_or st q [])) j

  -- they hold its children, and the places of the patterns that are its string
  pub record Young (q : ℕ) : Type 0 where
    pub row : (c : ℕ) → c < row_size → cell rows q c ≡ child st q c
    pub set : (j : ℕ) → j < set_size → get_or sets (set_size * q + j) 0 ≡ word (owns pats (get_or st q [])) j

  -- the states of fewer than d symbols are finished, and those of d symbols that start one of the first i patterns
  pub record Level (d i : ℕ) : Type 0 where
    pub final : (q : ℕ) → q < length st → length (get_or st q []) < d → Final q
    pub these : (k : ℕ) → k < i → d ≤ length (get_or pats k []) → Final (index (take d (get_or pats k [])) st)
    pub either : (q : ℕ) → q < length st → Final q ⊎ Young q

-- the places of the first i patterns stand in the sets of their own states
pub record Owned (pats : List Str) (i : ℕ) (sets : List ℕ) : Type 0 where
  pub words : (q j : ℕ) → q < length (states pats) → j < set_size → get_or sets (set_size * q + j) 0 ≡ word (owns (take i pats) (get_or (states pats) q [])) j

pub record Finished (rows sets : List ℕ) (q f : ℕ) (rows' sets' : List ℕ) : Type 0 where
  pub row : Wrote rows (row_size * q) row_size (completed rows q f) rows'
  pub set : Wrote sets (set_size * q) set_size (united sets q f) sets'

-- state q is finished from f where it lies above top, and r is the higher of both
pub record Raised (rows sets : List ℕ) (q f top r : ℕ) (rows' sets' : List ℕ) : Type 0 where
  pub old : q ≤ top → (r ≡ top) × ((rows' ≡ rows) × (sets' ≡ sets))
  pub new : top < q → (r ≡ q) × Finished rows sets q f rows' sets'
