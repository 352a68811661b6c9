-- What the functions that keep only the reached rows give.
-- Assumes nothing.
use Rattle.std.specs.Prelude.{◌≡◌, ◌⊎◌, ℕ, zero, suc, ◌+◌, ◌-◌, ◌≤◌, ◌<◌, cond, List, ltb, length, get_or, set}
use Rattle.automaton.specs.Automaton.{Str, key_of, val_of, cell_of, rows_of, Laid, look, Letters, Sound, Needed}
use Rattle.automaton.specs.Bounds.{some}
use Rattle.states.specs.States.{Written}

abbrev pub zero_of : ℕ → ℕ
zero_of j = 0

-- what marking and moving ask: sound rows to `top`, in memory, and a mark for each
pub record SweepAsks (ws : List ℕ) (marks : List ℕ) (top : ℕ) : Type 0 where
  pub sound : Sound (rows_of ws) top
  pub laid : Laid ws top
  pub states : top < 4180
  pub marked : top + 1 ≤ length marks
  pub small : length ws ≤ 16777216

-- the cells a to e are in memory and lead to what has a mark
pub record CellsAsk (ws marks : List ℕ) (a e : ℕ) : Type 0 where
  pub order : a ≤ e
  pub within : e ≤ length ws
  pub room : (k : ℕ) → a ≤ k → k < e → val_of (get_or ws k 0) < length marks

-- what the cells a to e lead to is marked, and nothing else is touched
pub record CellsMarked (ws : List ℕ) (a e : ℕ) (m m' : List ℕ) : Type 0 where
  pub hit : (k : ℕ) → a ≤ k → k < e → get_or m' (val_of (get_or ws k 0)) 0 ≡ 1
  pub other : (x : ℕ) → (get_or m' x 0 ≡ get_or m x 0) ⊎ ((get_or m' x 0 ≡ 1) × (k : ℕ) × (a ≤ k) × (k < e) × (val_of (get_or ws k 0) ≡ x))
  pub long : length m' ≡ length m

-- x is a successor of row i
abbrev pub Under : List ℕ → ℕ → ℕ → Type 0
Under ws i x = (c : ℕ) × (c < 64) × (rows_of ws i c ≡ x)

-- the successors of row i are marked, and nothing else is touched
pub record RowMarked (ws : List ℕ) (i : ℕ) (m m' : List ℕ) : Type 0 where
  pub hit : (c : ℕ) → c < 64 → 0 < rows_of ws i c → get_or m' (rows_of ws i c) 0 ≡ 1
  pub other : (x : ℕ) → (get_or m' x 0 ≡ get_or m x 0) ⊎ ((get_or m' x 0 ≡ 1) × Under ws i x)
  pub long : length m' ≡ length m

-- the same where row i is marked itself, and nothing else
pub record RowSpread (ws : List ℕ) (i : ℕ) (m m' : List ℕ) : Type 0 where
  pub hit : 0 < get_or m i 0 → (c : ℕ) → c < 64 → 0 < rows_of ws i c → 0 < get_or m' (rows_of ws i c) 0
  pub other : (x : ℕ) → (get_or m' x 0 ≡ get_or m x 0) ⊎ ((get_or m' x 0 ≡ 1) × (0 < get_or m i 0) × Under ws i x)
  pub long : length m' ≡ length m

-- the rows from i on have their successors marked where they are marked; a marked row but the first and the last is a successor of a marked one
pub record Spread (ws : List ℕ) (top i : ℕ) (m : List ℕ) : Type 0 where
  pub zeroth : 0 < get_or m 0 0
  pub root : 0 < get_or m top 0
  pub closed : (j c : ℕ) → i ≤ j → j ≤ top → 0 < get_or m j 0 → c < 64 → 0 < get_or m (rows_of ws j c) 0
  pub why : (x : ℕ) → 0 < x → x < top → 0 < get_or m x 0 → (j : ℕ) × (j ≤ top) × (0 < get_or m j 0) × Under ws j x

-- how many of the first k rows are marked
unfoldable pub marked : (ℕ → ℕ) → ℕ → ℕ
marked m zero = 0
marked m (suc k) = marked m k + some (m k)

-- a cell with its successor by its new number
unfoldable pub new_cell : List ℕ → ℕ → ℕ
new_cell m x = cond (ltb (key_of x) 64) (cell_of (key_of x) (get_or m (val_of x) 0)) x

abbrev pub moved_of : List ℕ → List ℕ → ℕ → ℕ → ℕ
moved_of m ws a j = new_cell m (get_or ws (a + j) 0)

-- what moving row i down to k asks
pub record KeepAsks (ws m : List ℕ) (i k : ℕ) : Type 0 where
  pub low : k ≤ i
  pub few : i < 4180
  pub mark : i < length m
  pub base : 4200 ≤ get_or ws k 0
  pub down : get_or ws k 0 ≤ get_or ws i 0
  pub order : get_or ws i 0 ≤ get_or ws (suc i) 0
  pub within : get_or ws (suc i) 0 ≤ length ws
  pub small : length ws ≤ 16777216
  pub leads : (x : ℕ) → get_or ws i 0 ≤ x → x < get_or ws (suc i) 0 → key_of (get_or ws x 0) < 64 → val_of (get_or ws x 0) < length m

pub record Moved (ws m : List ℕ) (i k : ℕ) (ws' : List ℕ) : Type 0 where
  pub between : List ℕ
  pub text : Written (moved_of m ws (get_or ws i 0)) (get_or ws k 0) (get_or ws (suc i) 0 - get_or ws i 0) ws between
  pub last : ws' ≡ set between (suc k) (get_or ws k 0 + (get_or ws (suc i) 0 - get_or ws i 0))

pub record RowKept (ws m : List ℕ) (i k : ℕ) (ws' m' : List ℕ) (r : ℕ) : Type 0 where
  pub skipped : get_or m i 0 ≡ 0 → (r ≡ k) × (m' ≡ m) × (ws' ≡ ws)
  pub kept : 0 < get_or m i 0 → (r ≡ k + 1) × (m' ≡ set m i k) × Moved ws (set m i k) i k ws'

-- the marked rows alone, with the start r last
pub record Swept (ws m : List ℕ) (top : ℕ) (ws' : List ℕ) (r : ℕ) : Type 0 where
  pub count : suc r ≡ marked (λ x. get_or m x 0) (suc top)
  pub fewer : r ≤ top
  pub sound : Sound (rows_of ws') r
  pub laid : Laid ws' r
  pub shrunk : get_or ws' (suc r) 0 ≤ get_or ws (suc top) 0
  pub needed : Needed (rows_of ws') r
  pub says : (w : Str) → Letters w → look (rows_of ws') r w ≡ look (rows_of ws) top w
  pub begins : (x : ℕ) → suc top < x → x < 4200 → get_or ws' x 0 ≡ get_or ws x 0
  pub past : (x : ℕ) → get_or ws (suc top) 0 ≤ x → get_or ws' x 0 ≡ get_or ws x 0
