-- The children of each node of a tree as a chain of siblings: `first` gives the latest child of a node, `next` the sibling before a child, `key` what
-- leads to it. A child has a higher number than the siblings before it, and 0 ends a chain.
-- Assumes nothing.
use Rattle.std.specs.Prelude.{◌≡◌, ◌≢◌, ◌⊎◌, ℕ, zero, suc, ◌≤◌, ◌<◌, cond, eqb}

-- the node under c in the chain from s on, looking at no more than k nodes; 0 where there is none
unfoldable pub seek : ℕ → (ℕ → ℕ) → (ℕ → ℕ) → ℕ → ℕ → ℕ
seek zero next key s c = 0
seek (suc k) next key s c = cond (eqb s 0) 0 (cond (eqb (key s) c) s (seek k next key (next s) c))

-- the numbers of the chain from s on fall
abbrev pub Falling : (ℕ → ℕ) → ℕ → Type 0
Falling next s = (k : ℕ) → 0 < k → k ≤ s → next k < k

-- the chains of n nodes
pub record Siblings (first next : ℕ → ℕ) (n : ℕ) : Type 0 where
  pub heads : (q : ℕ) → q < n → first q < n
  pub falling : (s : ℕ) → 0 < s → s < n → next s < s

-- node n is the latest child of q now, under c, and has none itself
pub record LatestChild (first next key first' next' key' : ℕ → ℕ) (q n c : ℕ) : Type 0 where
  pub parent : first' q ≡ n
  pub firsts : (k : ℕ) → k < n → k ≢ q → first' k ≡ first k
  pub childless : first' n ≡ 0
  pub before : next' n ≡ first q
  pub nexts : (k : ℕ) → k < n → next' k ≡ next k
  pub under : key' n ≡ c
  pub keys : (k : ℕ) → k < n → key' k ≡ key k

-- what a look-up of children gives then
pub record Attached (look look' : ℕ → ℕ → ℕ) (q n c : ℕ) : Type 0 where
  pub child : look' q c ≡ n
  pub row : (e : ℕ) → look' n e ≡ 0
  pub other : (k e : ℕ) → k < n → (k ≢ q) ⊎ (e ≢ c) → look' k e ≡ look k e
