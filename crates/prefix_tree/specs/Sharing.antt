-- What the shared left pass of a word gives: the tree of the prefixes of the words before it becomes the tree of one word more.
-- Assumes nothing.
use Rattle.std.specs.Prelude.{◌≡◌, ℕ, ◌+◌, ◌-◌, ◌*◌, ◌≤◌, ◌<◌, true, List, [], ◌∷◌, ◌++◌, ltb, length, get_or, take, Option, Some, None, is_some, IfSome}
use Rattle.fitting.specs.Fitting.{Str}
use Rattle.tables.specs.Tables.{Table}
use Rattle.tables.specs.Words.{row_size}
use Rattle.tables.specs.States.{states}
use Rattle.tables.specs.Walk.{pass, from, all_below}
use Rattle.side.specs.Steps.{Children}
use Rattle.passes.specs.Passes.{left_on}
use Rattle.prefix_tree.specs.Tree.{state_of, child_of, Tree, Added}
use Rattle.prefix_tree.specs.declared.SharedStep.{SharedStep}
use Rattle.prefix_tree.specs.declared.Counts.{Counts}

-- The n nodes are the different prefixes of the strings ws, each with the state that a pass over it ends in.
pub record Holds (tab : Table) (ws : List Str) (t : List ℕ) (n : ℕ) : Type 0 where
  pub count : n ≡ length (states ws)
  pub children : Children (states ws) (child_of t)
  pub held : (q : ℕ) → q < n → state_of t q ≡ (pass tab (from 0) (get_or (states ws) q [])).state

-- the entry of node q's state under c
abbrev pub entry_of : List ℕ → ℕ → List ℕ → ℕ → ℕ → ℕ
entry_of words rows t q c = get_or words (rows + (row_size * state_of t q + c)) 0

abbrev pub standing : ℕ → ℕ → ℕ → SharedStep
standing q n k = record { node = q; nodes = n; steps = k }

-- From a node to its child under c: it is found, and nothing is looked up; or one entry is, and the child is made where its state is below the count.
pub record Descended (words : List ℕ) (rows count : ℕ) (t : List ℕ) (p : SharedStep) (c : ℕ) (r : Option SharedStep) (t' : List ℕ) : Type 0 where
  pub found : (child_of t p.node c ≡ 0 → ⊥) → (r ≡ Some (standing (child_of t p.node c) p.nodes p.steps)) × (t' ≡ t)
  pub bad : child_of t p.node c ≡ 0 → count ≤ entry_of words rows t p.node c → (r ≡ None) × (t' ≡ t)
  pub made : child_of t p.node c ≡ 0 → entry_of words rows t p.node c < count
      → (r ≡ Some (standing p.nodes (p.nodes + 1) (p.steps + 1))) × Added t p.node p.nodes c (entry_of words rows t p.node c) t'

-- the string of which a left pass reads the symbols: all of the frame but its last #
abbrev pub left_string : List ℕ → Str
left_string f = take (length f - 1) f

-- for the strings ws that the tree holds
pub record Shares (tab : Table) (ws : List Str) (f : List ℕ) (t' left' : List ℕ) (r : Option Counts) : Type 0 where
  pub usable : is_some r ≡ all_below (λ i. ltb (left_on tab 0 f i).state tab.count) (length f - 1)
  pub holds : IfSome r (λ s. Holds tab (ws ++ (left_string f ∷ [])) t' s.nodes)
  pub all : is_some r ≡ true → (k : ℕ) → 1 ≤ k → k ≤ length f - 1 → get_or left' k 0 ≡ (left_on tab 0 f k).state

-- for any strings that the tree holds
abbrev pub SharesAll : Table → List ℕ → List ℕ → ℕ → List ℕ → List ℕ → Option Counts → Type 0
SharesAll tab f t n t' left' r = (ws : List Str) → Holds tab ws t n → Shares tab ws f t' left' r

-- what it leaves where no state is out of range
pub record Grown (count : ℕ) (f : List ℕ) (n steps : ℕ) (t' left' : List ℕ) (s : Counts) : Type 0 where
  pub tree : Tree t' s.nodes count
  -- one step for each node more
  pub steps-are : s.steps + n ≡ steps + s.nodes
  pub few : s.nodes + 1 ≤ n + length f
  pub more : n ≤ s.nodes
  pub small : (k : ℕ) → 1 ≤ k → k ≤ length f - 1 → get_or left' k 0 < count

-- the left pass of the frame f, with a tree of n nodes and a count of steps
pub record SharedPass (tab : Table) (f : List ℕ) (t : List ℕ) (n steps : ℕ) (left t' left' : List ℕ) (r : Option Counts) : Type 0 where
  pub sized : length t' ≡ length t
  pub left-sized : length left' ≡ length left
  pub grown : IfSome r (Grown tab.count f n steps t' left')
  pub shares : SharesAll tab f t n t' left' r
