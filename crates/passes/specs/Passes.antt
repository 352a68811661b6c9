-- What a step and a pass of a walk give, over any frame f.
-- Assumes nothing.
use Rattle.std.specs.Prelude.{ℕ, suc, ◌+◌, ◌*◌, ◌≤◌, ◌<◌, ◌≡◌, Bool, true, false, ◌&&◌, List, [], reverse, ltb, length, get_or, take, drop, Option, is_some, unwrap_or}
use Rattle.rules.specs.Limits.{max_names}
use Rattle.exceptions.specs.Judging.{says_of}
use Rattle.fitting.specs.Fitting.{Str, frame}
use Rattle.speech.specs.Words.{words_in, unlisted, word_at, Starts}
use Rattle.speech.specs.Places.{frame_size, FoundFor}
use Rattle.tables.specs.Tables.{Table}
use Rattle.tables.specs.Words.{head_words, row_size, right_rows, needed_words, table_at}
use Rattle.tables.specs.Walk.{Step as State, from, pass, all_below, left_at, right_at, walk_usable, all_words, count_after, carried}
use Rattle.passes.specs.declared.Step.{Step}

-- more entries than any call looks up: for each name of a sheet, four times the longest frame
abbrev pub max_steps : ℕ
max_steps = (max_names + 1) * (4 * frame_size)

-- one entry is looked up: the next state, and the count raised by one
pub record Stepped (words : List ℕ) (rows : ℕ) (s : Step) (c : ℕ) (r : Step) : Type 0 where
  pub next : r.state ≡ get_or words (rows + (row_size * s.state + c)) 0
  pub more : r.steps ≡ s.steps + 1

-- each symbol has an entry in a row
abbrev pub Symbols : List ℕ → Type 0
Symbols f = (k : ℕ) → k < length f → get_or f k 0 < row_size

-- rows of 64 entries, read from word `rows` on: a pass reads no set
abbrev pub rows_at : List ℕ → ℕ → ℕ → Table
rows_at words rows count = table_at words [] rows 0 count

-- where the left pass stands at position i, and the right pass, whose counts go on from k
abbrev pub left_on : Table → ℕ → List ℕ → ℕ → State
left_on t k f i = pass t (from k) (take i f)

abbrev pub right_on : Table → ℕ → List ℕ → ℕ → State
right_on t k f i = pass t (from k) (reverse (drop i f))

-- What a pass gives that stands at `at i` at position i, for positions 1 to n, and ends at position `last` with at most `most` steps; the
-- states are left in lent memory.
pub record Passed (at : ℕ → State) (count n last most : ℕ) (states : List ℕ) (r : Option ℕ) : Type 0 where
  pub usable : is_some r ≡ all_below (λ i. ltb (at i).state count) n
  pub all : is_some r ≡ true → (k : ℕ) → 1 ≤ k → k ≤ n → get_or states k 0 ≡ (at k).state
  pub small : is_some r ≡ true → (k : ℕ) → 1 ≤ k → k ≤ n → get_or states k 0 < count
  pub looked : is_some r ≡ true → unwrap_or r 0 ≡ (at last).steps
  pub few : is_some r ≡ true → unwrap_or r 0 ≤ most

-- the rows of the left table, and those of the right table, of l and r states
abbrev pub left_rows_of : List ℕ → ℕ → Table
left_rows_of ws l = rows_at ws head_words l

abbrev pub right_rows_of : List ℕ → ℕ → ℕ → Table
right_rows_of ws l r = rows_at ws (right_rows l) r

-- what the two passes over a frame of n letters give, whose count goes on from `steps`: whether no state is out of range, and if so the states and the count
pub record Both (ws : List ℕ) (l r : ℕ) (f : List ℕ) (n steps : ℕ) (left right : List ℕ) (p : Option ℕ) : Type 0 where
  pub usable : is_some p ≡ walk_usable (left_rows_of ws l) (right_rows_of ws l r) f n
  pub lefts : is_some p ≡ true → (k : ℕ) → 1 ≤ k → k ≤ suc n → get_or left k 0 ≡ (left_at (left_rows_of ws l) (right_rows_of ws l r) f n k).state
  pub rights : is_some p ≡ true → (k : ℕ) → 1 ≤ k → k ≤ suc n → get_or right k 0 ≡ (right_at (left_rows_of ws l) (right_rows_of ws l r) f n k).state
  pub left-small : is_some p ≡ true → (k : ℕ) → 1 ≤ k → k ≤ suc n → get_or left k 0 < l
  pub right-small : is_some p ≡ true → (k : ℕ) → 1 ≤ k → k ≤ suc n → get_or right k 0 < r
  pub looked : is_some p ≡ true → unwrap_or p 0 ≡ (right_on (right_rows_of ws l r) (left_on (left_rows_of ws l) steps f (suc n)).steps f 1).steps

-- ---- the words of a name

-- 16's tests of the words: rows for l and r states, of which there are some
pub record Rows (words l r : ℕ) : Type 0 where
  pub left : 0 < l
  pub right : 0 < r
  pub room : needed_words l r ≤ words

-- lent memory: for each position the part that the list gives for the word that starts there, and the states of both passes
pub record Memory : Type 0 where
  pub found : List ℕ
  pub left : List ℕ
  pub right : List ℕ

abbrev pub memory : List ℕ → List ℕ → List ℕ → Memory
memory found left right = record { found = found; left = left; right = right }

-- a place for each position of the longest frame
pub record Sized (m : Memory) : Type 0 where
  pub found : length m.found ≡ frame_size
  pub left : length m.left ≡ frame_size
  pub right : length m.right ≡ frame_size

-- whether the passes of a word lead to no state out of range, where the tables are `fit`: of the right lengths, with the ruleset's edit count
abbrev pub passable : List ℕ → ℕ → ℕ → Bool → Str → Bool
passable ws l r fit w = fit && walk_usable (left_rows_of ws l) (right_rows_of ws l r) (frame w) (length w)

-- the count after its passes, going on from k, where nothing is kept of other words
abbrev pub count_on : List ℕ → ℕ → ℕ → ℕ → Str → ℕ
count_on ws l r k w = count_after (left_rows_of ws l) (right_rows_of ws l r) [] k w

-- at letter k of the word w, which follows b bytes, stand the states of its passes
pub record Remembered (ws : List ℕ) (l r : ℕ) (w : Str) (b : ℕ) (m : Memory) : Type 0 where
  pub lefts : (k : ℕ) → 1 ≤ k → k ≤ length w → get_or m.left (b + k) 0 ≡ (left_at (left_rows_of ws l) (right_rows_of ws l r) (frame w) (length w) k).state
  pub rights : (k : ℕ) → 1 ≤ k → k ≤ length w → get_or m.right (b + k) 0 ≡ (right_at (left_rows_of ws l) (right_rows_of ws l r) (frame w) (length w) k).state
  pub left-small : (k : ℕ) → 1 ≤ k → k ≤ length w → get_or m.left (b + k) 0 < l
  pub right-small : (k : ℕ) → 1 ≤ k → k ≤ length w → get_or m.right (b + k) 0 < r

-- nothing before position b was written
pub record KeptTo (b : ℕ) (m m' : Memory) : Type 0 where
  pub found : (j : ℕ) → j < b → get_or m'.found j 0 ≡ get_or m.found j 0
  pub left : (j : ℕ) → j < b → get_or m'.left j 0 ≡ get_or m.left j 0
  pub right : (j : ℕ) → j < b → get_or m'.right j 0 ≡ get_or m.right j 0

-- what the passes of the word after b bytes give, whose count goes on from k
pub record WordPassed (ws : List ℕ) (l r : ℕ) (fit : Bool) (list : List ℕ) (w : Str) (b k : ℕ) (m m' : Memory) (p : Option ℕ) : Type 0 where
  pub sized : Sized m'
  pub kept : KeptTo b m m'
  pub part : FoundFor list w (get_or m'.found b 0)
  -- a listed word takes no step
  pub listed : 0 < get_or m'.found b 0 → (is_some p ≡ true) × (unwrap_or p 0 ≡ k)
  pub usable : get_or m'.found b 0 ≡ 0 → is_some p ≡ passable ws l r fit w
  pub steps : get_or m'.found b 0 ≡ 0 → is_some p ≡ true → unwrap_or p 0 ≡ count_on ws l r k w
  pub states : get_or m'.found b 0 ≡ 0 → is_some p ≡ true → Remembered ws l r w b m'

-- what is known of the word w after b bytes when all passes are done: its part, or that the tables are fit, and its states
pub record Known (ws : List ℕ) (l r : ℕ) (fit : Bool) (list : List ℕ) (w : Str) (b : ℕ) (m : Memory) : Type 0 where
  pub part : FoundFor list w (get_or m.found b 0)
  pub fits : get_or m.found b 0 ≡ 0 → fit ≡ true
  pub states : get_or m.found b 0 ≡ 0 → Remembered ws l r w b m

-- what the passes of all words give
pub record AllPassed (ws : List ℕ) (l r : ℕ) (fit : Bool) (list : List ℕ) (name : Str) (m : Memory) (p : Option ℕ) : Type 0 where
  pub sized : Sized m
  pub usable : is_some p ≡ all_words (passable ws l r fit) (unlisted (says_of list) (words_in name))
  pub steps : is_some p ≡ true → unwrap_or p 0 ≡ carried (left_rows_of ws l) (right_rows_of ws l r) false [] 0 (unlisted (says_of list) (words_in name))
  pub known : is_some p ≡ true → (b : ℕ) → b ≤ length name → Starts name b → Known ws l r fit list (word_at name b) b m
