-- What the functions on cells give.
-- Assumes nothing.
use Rattle.std.specs.Prelude.{◌≡◌, ◌⊎◌, ℕ, zero, suc, ◌+◌, ◌-◌, ◌*◌, ◌≤◌, ◌<◌, max, Bool, true, false, cond, List, [], ◌∷◌, ◌++◌, eqb, ltb, length, get_or, set, drop}
use Rattle.automaton.specs.Automaton.{Str, key_of, val_of, cell_of, part, cells_of, rows_of, Sorted, Laid, Letters, Alike, Sound}
use Rattle.automaton.specs.Changes.{Phones, First, Put}
use Rattle.states.specs.declared.Placed.{Placed}
use Rattle.states.specs.declared.Cut.{Cut}

-- the cells before the first whose place is not below c
abbrev pub lower : ℕ → List ℕ → List ℕ
lower c [] = []
lower c (x ∷ l) = cond (ltb (key_of x) c) (x ∷ lower c l) []

-- that cell and those after it
abbrev pub upper : ℕ → List ℕ → List ℕ
upper c [] = []
upper c (x ∷ l) = cond (ltb (key_of x) c) (upper c l) (x ∷ l)

-- without a first cell of place c
abbrev pub past : ℕ → List ℕ → List ℕ
past c [] = []
past c (x ∷ l) = cond (eqb (key_of x) c) l (x ∷ l)

-- a cell of place c, none where r is 0
abbrev pub one : ℕ → ℕ → List ℕ
one c zero = []
one c (suc r) = cell_of c (suc r) ∷ []

-- the cells with r at place c
unfoldable pub with_successor : ℕ → ℕ → List ℕ → List ℕ
with_successor c r l = lower c l ++ (one c r ++ past c (upper c l))

-- groups of phones as cells from place k on
abbrev pub groups : ℕ → List ℕ → List ℕ
groups k [] = []
groups k (x ∷ p) = cell_of k (val_of x) ∷ groups (suc k) p

-- the cells with these groups of phones
unfoldable pub with_phones : List ℕ → List ℕ → List ℕ
with_phones p l = lower 64 l ++ groups 64 p

-- the cells a to r are those of places below c, the cells r to e the others
pub record Split (ws : List ℕ) (a e c r : ℕ) : Type 0 where
  pub least : a ≤ r
  pub most : r ≤ e
  pub low : lower c (part ws a (e - a)) ≡ part ws a (r - a)
  pub high : upper c (part ws a (e - a)) ≡ part ws r (e - r)

pub record Valued (ws : List ℕ) (i e c r : ℕ) : Type 0 where
  pub none : e ≤ i → r ≡ 0
  pub other : i < e → (key_of (get_or ws i 0) ≡ c → ⊥) → r ≡ 0
  pub same : i < e → key_of (get_or ws i 0) ≡ c → r ≡ val_of (get_or ws i 0)

pub record AsksState (ws : List ℕ) (n q : ℕ) : Type 0 where
  pub laid : Laid ws n
  pub state : q ≤ n

pub record Compared (ws : List ℕ) (i t : ℕ) (r : Bool) : Type 0 where
  pub alike : r ≡ true → Alike (rows_of ws) i t
  pub differ : r ≡ false → Alike (rows_of ws) i t → ⊥

pub record FoundOrAdded (ws : List ℕ) (n : ℕ) (r : Placed) : Type 0 where
  pub first : First (rows_of ws) (suc n) r.root
  pub top : r.top ≡ max n r.root

-- the first k words from b on are v's, and all other words are kept
pub record Written (v : ℕ → ℕ) (b k : ℕ) (ws ws' : List ℕ) : Type 0 where
  pub done : (j : ℕ) → j < k → get_or ws' (b + j) 0 ≡ v j
  pub before : (x : ℕ) → x < b → get_or ws' x 0 ≡ get_or ws x 0
  pub after : (x : ℕ) → b + k ≤ x → get_or ws' x 0 ≡ get_or ws x 0
  pub long : length ws' ≡ length ws

-- the words from a on
abbrev pub copy_of : List ℕ → ℕ → ℕ → ℕ
copy_of ws a j = get_or ws (a + j) 0

-- the cell of group j of phones
abbrev pub group_of : List ℕ → ℕ → ℕ
group_of p j = cell_of (64 + j) (val_of (get_or p j 0))

pub record CellPut (ws : List ℕ) (o c r : ℕ) (ws' : List ℕ) (z : ℕ) : Type 0 where
  pub next : z ≡ o + length (one c r)
  pub text : Written (λ j. get_or (one c r) j 0) o (length (one c r)) ws ws'

pub record Skipped (ws : List ℕ) (i e c r : ℕ) : Type 0 where
  pub least : i ≤ r
  pub most : r ≤ e
  pub rest : past c (part ws i (e - i)) ≡ part ws r (e - r)

-- where the cells of a state lie
pub record Placing (ws : List ℕ) (n q a e : ℕ) : Type 0 where
  pub base : 4200 ≤ a
  pub order : a ≤ e
  pub below : e ≤ get_or ws (suc n) 0
  pub within : e ≤ length ws
  pub short : e - a ≤ 85
  pub cells : cells_of ws q ≡ part ws a (e - a)
  pub sorted : Sorted 1 (part ws a (e - a))

-- l stands from o on, all other words are kept
abbrev pub Wrote : List ℕ → ℕ → List ℕ → List ℕ → Type 0
Wrote l o ws ws' = Written (λ j. get_or l j 0) o (length l) ws ws'

-- the cells of row q below place c stand behind the cells of row n; the others are still to be copied
pub record Lowered (ws : List ℕ) (n q c : ℕ) (ws' : List ℕ) (r : Cut) : Type 0 where
  pub text : Wrote (lower c (cells_of ws q)) (get_or ws (suc n) 0) ws ws'
  pub next : r.out ≡ get_or ws (suc n) 0 + length (lower c (cells_of ws q))
  pub high : upper c (cells_of ws q) ≡ part ws r.at (r.to - r.at)
  pub short : length (lower c (cells_of ws q)) + (r.to - r.at) ≤ 85
  pub order : r.at ≤ r.to
  pub below : r.to ≤ get_or ws (suc n) 0

-- l stands from o on and ends the row after n, all other words are kept
pub record Ended (ws : List ℕ) (n o : ℕ) (l : List ℕ) (ws' : List ℕ) : Type 0 where
  pub between : List ℕ
  pub text : Wrote l o ws between
  pub last : ws' ≡ set between (n + 2) (o + length l)

-- what appending a row asks
pub record AppendAsks (ws : List ℕ) (n q : ℕ) : Type 0 where
  pub laid : Laid ws n
  pub state : q ≤ n
  pub few : n < 4180
  pub room : get_or ws (suc n) 0 + 86 ≤ length ws
  pub small : length ws ≤ 16777216

-- the cells l are those of the row after n, and all other words but their end are kept
pub record Appended (ws : List ℕ) (n : ℕ) (l : List ℕ) (ws' : List ℕ) : Type 0 where
  pub stop : get_or ws' (suc (suc n)) 0 ≡ get_or ws (suc n) 0 + length l
  pub cells : part ws' (get_or ws (suc n) 0) (length l) ≡ l
  pub begins : (x : ℕ) → x < 4200 → (x ≡ suc (suc n) → ⊥) → get_or ws' x 0 ≡ get_or ws x 0
  pub before : (x : ℕ) → 4200 ≤ x → x < get_or ws (suc n) 0 → get_or ws' x 0 ≡ get_or ws x 0
  pub after : (x : ℕ) → get_or ws (suc n) 0 + length l ≤ x → get_or ws' x 0 ≡ get_or ws x 0
  pub long : length ws' ≡ length ws

-- a row with the cells l after n, found again or added
pub record Interned (ws : List ℕ) (n : ℕ) (l ws' : List ℕ) (r : Placed) : Type 0 where
  pub row : Appended ws n l ws'
  pub found : FoundOrAdded ws' n r

-- the states on the way of the name's first k letters, from the start n on
pub record PathOf (ws : List ℕ) (n : ℕ) (name : Str) (k : ℕ) (path : List ℕ) : Type 0 where
  pub start : get_or path 0 0 ≡ n
  pub next : (i : ℕ) → i < k → get_or path (suc i) 0 ≡ rows_of ws (get_or path i 0) (get_or name i 0)

-- what a change of the name from place `from` on asks, as it is said from row q
pub record PutAsks (ws : List ℕ) (n q : ℕ) (name : Str) (from : ℕ) (p : Str) : Type 0 where
  pub sound : Sound (rows_of ws) n
  pub laid : Laid ws n
  pub inside : q ≤ n
  pub states : n ≤ 4096
  pub few : length name ≤ 64
  pub place : from ≤ length name
  pub room : get_or ws (suc n) 0 + 86 * (length name - from + 1) ≤ length ws
  pub small : length ws ≤ 16777216
  pub letters : Letters (drop from name)
  pub phones : Phones p

pub record PutGives (ws : List ℕ) (n q : ℕ) (name : Str) (from : ℕ) (p : Str) (ws' : List ℕ) (r : Placed) : Type 0 where
  pub rows : Put (rows_of ws) n q (drop from name) p (rows_of ws') r.top r.root
  pub laid : Laid ws' r.top
  pub grown : get_or ws' (suc r.top) 0 ≤ get_or ws (suc n) 0 + 86 * (length name - from + 1)
  pub begins : (x : ℕ) → x < 4200 → (x ≤ suc n) ⊎ (n + (length name - from) + 2 < x) → get_or ws' x 0 ≡ get_or ws x 0
  pub before : (x : ℕ) → 4200 ≤ x → x < get_or ws (suc n) 0 → get_or ws' x 0 ≡ get_or ws x 0
  pub after : (x : ℕ) → get_or ws (suc n) 0 + 86 * (length name - from + 1) ≤ x → get_or ws' x 0 ≡ get_or ws x 0
  pub long : length ws' ≡ length ws

-- what following a name asks
pub record EndAsks (ws : List ℕ) (n : ℕ) (name : Str) : Type 0 where
  pub sound : Sound (rows_of ws) n
  pub laid : Laid ws n
  pub letters : Letters name
