-- The exceptions list as an acyclic automaton: rows, what a state says of a name, and when the rows are sound.
-- Assumes nothing.
use Rattle.std.specs.Prelude.{◌≡◌, ℕ, zero, suc, pred, ◌+◌, ◌-◌, ◌*◌, ◌/◌, ◌%◌, ◌≤◌, ◌<◌, Bool, true, false, cond, ◌&&◌, List, [], ◌∷◌, eqb, length, get_or}

abbrev pub Str : Type 0
Str = List ℕ

-- What stands in row q at place k. Place 0 is always 0; places 1 to 63 hold the successor under each letter, 0 where there is none;
-- places 64 to 85 hold the phones of the name that ends in q, three to a place, then zeros. Row 0 is blank: the state of every name that is not listed.
abbrev pub Rows : Type 0
Rows = ℕ → ℕ → ℕ

-- a cell is a place times 2 to the 24th, and what stands there
unfoldable pub key_of : ℕ → ℕ
key_of x = x / 16777216

unfoldable pub val_of : ℕ → ℕ
val_of x = x % 16777216

unfoldable pub cell_of : ℕ → ℕ → ℕ
cell_of k v = k * 16777216 + v

-- what the cells say of place k: 0 where none is of it
abbrev pub at : List ℕ → ℕ → ℕ
at [] k = 0
at (x ∷ l) k = cond (eqb (key_of x) k) (val_of x) (at l k)

-- the n words from a on
abbrev pub part : List ℕ → ℕ → ℕ → List ℕ
part ws a zero = []
part ws a (suc n) = get_or ws a 0 ∷ part ws (suc a) n

-- the cells of state q lie from the place that word q gives to the one that word q + 1 gives
unfoldable pub cells_of : List ℕ → ℕ → List ℕ
cells_of ws q = part ws (get_or ws q 0) (get_or ws (suc q) 0 - get_or ws q 0)

-- the rows of lent words
unfoldable pub rows_of : List ℕ → Rows
rows_of ws q k = at (cells_of ws q) k

-- cells of rising places from lo on, none empty
abbrev pub Sorted : ℕ → List ℕ → Type 0
Sorted lo [] = Unit {0}
Sorted lo (x ∷ l) = (lo ≤ key_of x) × (key_of x < 86) × (0 < val_of x) × Sorted (suc (key_of x)) l

-- the words 0 to n + 1 give the places of the cells of the states 0 to n, one state's after another's, from word 4200 on
pub record Laid (ws : List ℕ) (n : ℕ) : Type 0 where
  pub few : n < 4190
  pub start : get_or ws 0 0 ≡ 4200
  pub ends : (q : ℕ) → q ≤ n → get_or ws q 0 ≤ get_or ws (suc q) 0
  pub inside : get_or ws (suc n) 0 ≤ length ws
  pub sorted : (q : ℕ) → q ≤ n → Sorted 1 (cells_of ws q)

-- l after x, and nothing where x is 0
abbrev pub unless_zero : ℕ → List ℕ → List ℕ
unless_zero zero l = []
unless_zero (suc x) l = suc x ∷ l

-- the numbers before the first 0, n at most
abbrev pub up_to : ℕ → (ℕ → ℕ) → List ℕ
up_to zero g = []
up_to (suc n) g = unless_zero (g zero) (up_to n (λ k. g (suc k)))

-- the phones of the name that ends in state q, none where no name does
unfoldable pub phones_at : Rows → ℕ → Str
phones_at f q = up_to 22 (λ k. f q (64 + k))

-- the state in which a name ends
abbrev pub end_state : Rows → ℕ → Str → ℕ
end_state f q [] = q
end_state f q (c ∷ w) = end_state f (f q c) w

-- what is said of a name from state q: its phones, none where it is not listed
abbrev pub look : Rows → ℕ → Str → Str
look f q [] = phones_at f q
look f q (c ∷ w) = look f (f q c) w

-- all symbols are letters
abbrev pub Letters : Str → Type 0
Letters [] = Unit {0}
Letters (c ∷ w) = (0 < c) × (c < 64) × Letters w

-- g has no number but 0 after a 0, among the first n
abbrev pub Padded : ℕ → (ℕ → ℕ) → Type 0
Padded n g = (k : ℕ) → suc k < n → g k ≡ 0 → g (suc k) ≡ 0

-- rows i and j hold the same
abbrev pub Alike : Rows → ℕ → ℕ → Type 0
Alike f i j = (k : ℕ) → k < 86 → f i k ≡ f j k

-- the rows 0 to n are states, each after its successors, and no two alike
pub record Sound (f : Rows) (n : ℕ) : Type 0 where
  pub blank : (k : ℕ) → k < 86 → f 0 k ≡ 0
  pub unused : (q : ℕ) → q ≤ n → f q 0 ≡ 0
  pub earlier : (q c : ℕ) → q ≤ n → c < 64 → f q c ≤ pred q
  pub padded : (q : ℕ) → q ≤ n → Padded 22 (λ k. f q (64 + k))
  pub bytes : (q k : ℕ) → q ≤ n → k < 22 → f q (64 + k) < 16777216
  pub apart : (i j : ℕ) → i ≤ n → j ≤ n → Alike f i j → i ≡ j

-- every state but the start n is a successor of one
abbrev pub Needed : Rows → ℕ → Type 0
Needed f n = (q : ℕ) → 0 < q → q < n → (j : ℕ) × (c : ℕ) × (j ≤ n) × (c < 64) × (f j c ≡ q)

-- ---- what changes do to what is said

abbrev pub same : Str → Str → Bool
same [] [] = true
same [] (y ∷ w) = false
same (x ∷ s) [] = false
same (x ∷ s) (y ∷ w) = eqb x y && same s w

-- the list m, with phones p for the name (none: the name is removed)
abbrev pub changed : Str → Str → (Str → Str) → Str → Str
changed name p m w = cond (same w name) p (m w)
