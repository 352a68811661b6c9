-- The children of a node as a chain of siblings, in three slices: the latest child of each node, the sibling before it, its key.
-- Assumes nothing.
use Rattle.std.specs.Prelude.{◌≡◌, ℕ, ◌≤◌, ◌<◌, List, length, get_or}
use Rattle.tables.specs.Siblings.{seek, Falling, Siblings}

abbrev pub at : List ℕ → ℕ → ℕ
at xs k = get_or xs k 0

-- the child of q under c
abbrev pub child_of : List ℕ → List ℕ → List ℕ → ℕ → ℕ → ℕ
child_of fi nx ky q c = seek (length nx) (at nx) (at ky) (get_or fi q 0) c

-- room for n nodes
pub record Room (n : ℕ) (fi nx ky : List ℕ) : Type 0 where
  pub firsts : n ≤ length fi
  pub nexts : n ≤ length nx
  pub keys : n ≤ length ky

-- the chain of node q can be searched: its numbers fall
pub record Linked (fi nx ky : List ℕ) (q : ℕ) : Type 0 where
  pub node : q < length fi
  pub nexts : get_or fi q 0 < length nx
  pub keys : get_or fi q 0 < length ky
  pub falling : Falling (at nx) (get_or fi q 0)

-- the chains of n nodes; from n on there is nothing
pub record Chains (fi nx ky : List ℕ) (n : ℕ) : Type 0 where
  pub room : Room n fi nx ky
  pub siblings : Siblings (at fi) (at nx) n
  pub firsts_zero : (k : ℕ) → n ≤ k → get_or fi k 0 ≡ 0
  pub nexts_zero : (k : ℕ) → n ≤ k → get_or nx k 0 ≡ 0

-- as long as before
pub record Alike (fi nx ky fi' nx' ky' : List ℕ) : Type 0 where
  pub firsts : length fi' ≡ length fi
  pub nexts : length nx' ≡ length nx
  pub keys : length ky' ≡ length ky
