-- The tree of some patterns: its nodes are the empty string and the patterns in order. A child goes on where its parent does not.
-- Assumes nothing.
use Rattle.std.specs.Prelude.{◌≡◌, ℕ, zero, suc, ◌+◌, ◌*◌, ◌≤◌, ◌<◌, Bool, true, false, cond, List, [], ◌∷◌, ◌++◌, length, get_or, take, drop}
use Rattle.fitting.specs.Fitting.{Str, starts}
use Rattle.tables.specs.States.{states, numbered}
use Rattle.tables.specs.Words.{row_size}
use Rattle.side.specs.Patterns.{pattern_at, patterns_of, state_count}
use Rattle.count.specs.Chains.{child_of, Chains, Alike}
use Rattle.count.specs.declared.Branch.{Branch}

-- the key of the symbol c at depth m
abbrev pub key_of : ℕ → ℕ → ℕ
key_of m c = row_size * m + c

abbrev pub nodes : List Str → List Str
nodes pats = [] ∷ pats

-- the string of a node, from the patterns as they lie
abbrev pub node_at : List ℕ → List ℕ → ℕ → Str
node_at ps ls zero = []
node_at ps ls (suc i) = pattern_at ps ls i

-- the string w has the symbol c after its first m
abbrev pub has_symbol : Str → ℕ → ℕ → Bool
has_symbol w m c = starts (c ∷ []) (drop m w)

-- after node q, which has the string w: q itself, or a child of it; 0 where there is none
abbrev pub next_node : Str → (ℕ → ℕ → ℕ) → ℕ → ℕ → ℕ → ℕ
next_node w look q m c = cond (has_symbol w m c) q (look q (key_of m c))

-- the first of some strings that s starts
abbrev pub first_with : Str → List Str → ℕ
first_with s [] = 0
first_with s (w ∷ l) = cond (starts s w) 0 (suc (first_with s l))

-- From the first node that a numbered string s starts, c leads to the first one that s and c start, and to 0 where these are not numbered.
pub record Tree (pats : List Str) (look : ℕ → ℕ → ℕ) : Type 0 where
  pub child : (s : Str) (c : ℕ) → numbered (states pats) s ≡ true → c < row_size
      → next_node (get_or (nodes pats) (first_with s (nodes pats)) []) look (first_with s (nodes pats)) (length s) c
      ≡ cond (numbered (states pats) (s ++ (c ∷ []))) (first_with (s ++ (c ∷ [])) (nodes pats)) 0

-- where p branches off: no longer prefix of it is numbered
pub record Followed (pats : List Str) (p : Str) (r : Branch) : Type 0 where
  pub reached : r.depth ≤ length p
  pub has : numbered (states pats) (take r.depth p) ≡ true
  pub node : r.node ≡ first_with (take r.depth p) (nodes pats)
  pub most : r.depth < length p → numbered (states pats) (take (r.depth + 1) p) ≡ false

-- the tree of the first n patterns, and r their states
pub record Counted (ps ls : List ℕ) (n : ℕ) (fi nx ky : List ℕ) (r : ℕ) (fi' nx' ky' : List ℕ) : Type 0 where
  pub count : r ≡ state_count ps ls n
  pub chains : Chains fi' nx' ky' (n + 1)
  pub tree : Tree (patterns_of ps ls n) (child_of fi' nx' ky')
  pub alike : Alike fi nx ky fi' nx' ky'
