-- What the passes of a name's words give where the left pass is shared: the tree of the words before becomes the tree of its words too. The states are
-- those of a name alone: what `passes` says of them is said here for the counts of a name alone, whatever they are.
-- Assumes nothing.
use Rattle.std.specs.Prelude.{◌≡◌, ℕ, suc, ◌+◌, ◌-◌, ◌≤◌, Bool, true, List, [], ◌∷◌, ◌++◌, length, Option, Some, None, IfSome, OnSome}
use Rattle.exceptions.specs.Judging.{says_of}
use Rattle.fitting.specs.Fitting.{Str}
use Rattle.speech.specs.Words.{word, words_in, unlisted}
use Rattle.tables.specs.Tables.{Table}
use Rattle.tables.specs.Steps.{hashed, right_steps}
use Rattle.passes.specs.Passes.{left_on, right_on, left_rows_of, right_rows_of, Both, Memory, WordPassed, AllPassed}
use Rattle.prefix_tree.specs.Tree.{Tree}
use Rattle.prefix_tree.specs.Sharing.{Holds, left_string}
use Rattle.prefix_tree.specs.declared.Counts.{Counts}

-- whether no state was out of range, as the answer of passes with so many steps
abbrev pub pass_of : Option Counts → ℕ → Option ℕ
pass_of None k = None
pass_of (Some p) k = Some k

-- What passes leave where no state is out of range, with a tree of n nodes and a count of steps before them: no more nodes than there is room for, with one step
-- for each, and one for each of the positions that right passes read.
pub record Grown (fit : Bool) (l room rights n steps : ℕ) (t' : List ℕ) (s : Counts) : Type 0 where
  pub tree : fit ≡ true → Tree t' s.nodes l
  pub steps-are : s.steps + n ≡ steps + s.nodes + rights
  pub few : s.nodes ≤ n + room
  pub more : n ≤ s.nodes

-- the tree holds some strings; where the lengths of the tables fit, its states are below the count
pub record HoldsSome (fit : Bool) (tab : Table) (t : List ℕ) (n : ℕ) : Type 0 where
  pub strings : List Str
  pub tree : fit ≡ true → Tree t n tab.count
  pub holds : Holds tab strings t n

-- ---- a frame

-- the count after both passes over the frame of a name alone, going on from k
abbrev pub count_over : List ℕ → ℕ → ℕ → List ℕ → ℕ → ℕ
count_over words l r f k = (right_on (right_rows_of words l r) (left_on (left_rows_of words l) k f (suc (length f - 2))).steps f 1).steps

module _ (words : List ℕ) (l r : ℕ) (f : List ℕ) (left' right' : List ℕ) (t' : List ℕ) (p : Option Counts) where
  pub record FrameShares (ws : List Str) : Type 0 where
    pub both : (k : ℕ) → Both words l r f (length f - 2) k left' right' (pass_of p (count_over words l r f k))
    pub holds : IfSome p (λ s. Holds (left_rows_of words l) (ws ++ (left_string f ∷ [])) t' s.nodes)

  abbrev pub FrameSharesAll : List ℕ → ℕ → Type 0
  FrameSharesAll t n = (ws : List Str) → Holds (left_rows_of words l) ws t n → FrameShares ws

pub record FramePassed (words : List ℕ) (l r : ℕ) (f : List ℕ) (t : List ℕ) (n steps : ℕ) (left right t' left' right' : List ℕ) (p : Option Counts) : Type 0 where
  pub sized : length t' ≡ length t
  pub left-sized : length left' ≡ length left
  pub right_sized : length right' ≡ length right
  pub grown : IfSome p (Grown true l (length f - 1) (length f - 1) n steps t')
  pub shares : FrameSharesAll words l r f left' right' t' p t n

-- ---- the word w after b bytes

module _ (words : List ℕ) (l r : ℕ) (fit : Bool) (list : List ℕ) (w : Str) (b : ℕ) (m m' : Memory) (t' : List ℕ) (p : Option Counts) where
  pub record WordShares (ws : List Str) : Type 0 where
    pub taken : ℕ → ℕ
    pub passed : (k : ℕ) → WordPassed words l r fit list w b k m m' (pass_of p (taken k))
    pub holds : IfSome p (λ s. Holds (left_rows_of words l) (ws ++ hashed (unlisted (says_of list) (word b w ∷ []))) t' s.nodes)

  abbrev pub WordSharesAll : List ℕ → ℕ → Type 0
  WordSharesAll t n = (ws : List Str) → Holds (left_rows_of words l) ws t n → WordShares ws

pub record WordShared (words : List ℕ) (l r : ℕ) (fit : Bool) (list : List ℕ) (w : Str) (b : ℕ) (m m' : Memory) (t : List ℕ) (n steps : ℕ) (t' : List ℕ) (p : Option Counts) : Type 0 where
  pub sized : length t' ≡ length t
  pub grown : IfSome p (Grown fit l (length w + 1) (right_steps (unlisted (says_of list) (word b w ∷ []))) n steps t')
  pub shares : WordSharesAll words l r fit list w b m m' t' p t n

-- ---- all words of a name

module _ (words : List ℕ) (l r : ℕ) (fit : Bool) (list : List ℕ) (name : Str) (m : Memory) (t' : List ℕ) (p : Option Counts) where
  pub record NameShares (ws : List Str) : Type 0 where
    pub taken : ℕ
    pub passed : AllPassed words l r fit list name m (pass_of p taken)
    pub holds : IfSome p (λ s. Holds (left_rows_of words l) (ws ++ hashed (unlisted (says_of list) (words_in name))) t' s.nodes)

  abbrev pub NameSharesAll : List ℕ → ℕ → Type 0
  NameSharesAll t n = (ws : List Str) → Holds (left_rows_of words l) ws t n → NameShares ws

pub record NameShared (words : List ℕ) (l r : ℕ) (fit : Bool) (list : List ℕ) (name : Str) (m : Memory) (t : List ℕ) (n steps : ℕ) (t' : List ℕ) (p : Option Counts) : Type 0 where
  pub sized : length t' ≡ length t
  pub grown : IfSome p (Grown fit l (length name + 1) (right_steps (unlisted (says_of list) (words_in name))) n steps t')
  pub short : OnSome p (right_steps (unlisted (says_of list) (words_in name)) ≤ length name + 1)
  pub shares : NameSharesAll words l r fit list name m t' p t n
