-- What the parts of a builder give: document 01, "The tables".
-- Assumes nothing.
use Rattle.std.specs.Prelude.{◌≡◌, ◌≢◌, ◌⊎◌, ℕ, ◌+◌, ◌-◌, ◌*◌, ◌≤◌, ◌<◌, cond, List, [], ◌∷◌, eqb, length, get_or, take, drop}
use Rattle.std.specs.Int.Bits.{bit_or}
use Rattle.tables.specs.Words.{row_size, set_size}
use Rattle.fitting.specs.Fitting.{Str}
use Rattle.tables.specs.States.{states, child}
use Rattle.side.specs.Patterns.{patterns_of}
use Rattle.side.specs.Wrote.{Past}
use Rattle.side.specs.declared.Place.{Place}

-- the entry of state q under c
abbrev pub cell : List ℕ → ℕ → ℕ → ℕ
cell rows q c = get_or rows (row_size * q + c) 0

-- a run of the rows
abbrev pub run : (ℕ → ℕ → ℕ) → ℕ → Str → ℕ
run t q [] = q
run t q (c ∷ w) = run t (t q c) w

abbrev pub part : List ℕ → ℕ → ℕ → Str
part ps a e = take (e - a) (drop a ps)

-- rows of `count` states, each entry one of them
pub record Inside (rows : List ℕ) (count : ℕ) : Type 0 where
  pub some : 0 < count
  pub room : row_size * count ≤ length rows
  pub below : (k : ℕ) → k < row_size * count → get_or rows k 0 < count

-- symbols from a to e
pub record Symbols (ps : List ℕ) (a e : ℕ) : Type 0 where
  pub order : a ≤ e
  pub inside : e ≤ length ps
  pub small : (k : ℕ) → a ≤ k → k < e → get_or ps k 0 < row_size

-- a step down: the child, or a new state n with an empty row, where there was none
pub record Made (xs : List ℕ) (k n : ℕ) (ys : List ℕ) : Type 0 where
  pub len : length ys ≡ length xs
  pub child : get_or ys k 0 ≡ n
  pub row : (c : ℕ) → c < row_size → get_or ys (row_size * n + c) 0 ≡ 0
  pub below : (j : ℕ) → j < row_size * n → (j ≡ k → ⊥) → get_or ys j 0 ≡ get_or xs j 0
  pub above : (j : ℕ) → row_size * n + row_size ≤ j → get_or ys j 0 ≡ get_or xs j 0

pub record Descended (xs : List ℕ) (q n c : ℕ) (r : Place) (ys : List ℕ) : Type 0 where
  pub found : (cell xs q c ≡ 0 → ⊥) → (r.state ≡ cell xs q c) × ((r.count ≡ n) × (ys ≡ xs))
  pub made : cell xs q c ≡ 0 → (r.state ≡ n) × ((r.count ≡ n + 1) × Made xs (row_size * q + c) n ys)

-- A lookup gives the children of the states, and 0 where there is none.
pub record Children (st : List Str) (look : ℕ → ℕ → ℕ) : Type 0 where
  pub children : (q c : ℕ) → q < length st → c < row_size → look q c ≡ child st q c

-- the rows hold the children of the states
abbrev pub Numbered : List Str → List ℕ → Type 0
Numbered st rows = Children st (cell rows)

-- state n is new, the child of q under c: what the lookup gives now
pub record NewChild (look look' : ℕ → ℕ → ℕ) (q n c : ℕ) : Type 0 where
  pub child : look' q c ≡ n
  pub row : (e : ℕ) → e < row_size → look' n e ≡ 0
  pub other : (k e : ℕ) → k < n → e < row_size → (k ≢ q) ⊎ (e ≢ c) → look' k e ≡ look k e

-- A step down from q under c, of n states: r is the child, and m the states then.
pub record Step (look look' : ℕ → ℕ → ℕ) (q n c r m : ℕ) : Type 0 where
  pub found : (look q c ≡ 0 → ⊥) → (r ≡ look q c) × ((m ≡ n) × ((k e : ℕ) → k < n → e < row_size → look' k e ≡ look k e))
  pub made : look q c ≡ 0 → (r ≡ n) × ((m ≡ n + 1) × NewChild look look' q n c)

-- the first n patterns have r states, whose rows hold their children; what lies past these rows is kept
pub record Counted (ps ls : List ℕ) (n : ℕ) (xs : List ℕ) (r : ℕ) (ys : List ℕ) : Type 0 where
  pub count : r ≡ length (states (patterns_of ps ls n))
  pub rows : Numbered (states (patterns_of ps ls n)) ys
  pub past : Past (row_size * r) xs ys

-- row q completed from row f
abbrev pub completed : List ℕ → ℕ → ℕ → ℕ → ℕ
completed rows q f c = cond (eqb (cell rows q c) 0) (cell rows f c) (cell rows q c)

-- set q with set f put in
abbrev pub united : List ℕ → ℕ → ℕ → ℕ → ℕ
united sets q f j = bit_or (get_or sets (set_size * q + j) 0) (get_or sets (set_size * f + j) 0)
