-- The chains of children in the tree: what is found below a node, and what a new child changes.
-- Assumes nothing.
use mathlib.Core.Path.{◌≡◌, ap, ◌∙◌}
use Prim.Native.Nat.{ℕ, suc, ◌+◌, ◌*◌, ◌≤◌, ◌<◌}
use native.Mathlib.Omega.{arith}
use native.Mathlib.Decide.{dec_le}
use mathlib.Core.List.{List}
use lib.ListN.{length}
use Rattle.tables.specs.Siblings.{seek, Falling}
use Rattle.tables.proofs.Siblings.{seek_zero, seek_le, siblings_fall, latest_siblings, latest_child}
use Rattle.side.specs.Steps.{NewChild}
use Rattle.prefix_tree.specs.Tree.{node_size, Room, first_of, next_of, symbol_of, state_of, child_of, Tree, Added}

pub no-child : (t : List ℕ) (q c : ℕ) → first_of t q ≡ 0 → child_of t q c ≡ 0
no-child t q c e = ap (λ (s : ℕ). seek (length t) (next_of t) (symbol_of t) s c) e ∙ seek_zero (length t) (next_of t) (symbol_of t) c

-- the chain of a node can be searched
pub chain_of : (t : List ℕ) (n count : ℕ) → Tree t n count → (q : ℕ) → q < n → (node_size * first_of t q + node_size ≤ length t) × Falling (next_of t) (first_of t q)
chain_of t n count tr q h =
    let g = tr.siblings.heads q h in
    (omega (arith, tr.room), siblings_fall (first_of t) (next_of t) n tr.siblings q h)

pub child_lt : (t : List ℕ) (n count : ℕ) → Tree t n count → (q c : ℕ) → q < n → child_of t q c < n
child_lt t n count tr q c h =
    let g = tr.siblings.heads q h in
    let b = seek_le (length t) (next_of t) (symbol_of t) (first_of t q) c (siblings_fall (first_of t) (next_of t) n tr.siblings q h) in omega arith

module _ (t : List ℕ) (q n c state count : ℕ) (t' : List ℕ) (l : q < n) (tr : Tree t n count) (room : Room t (n + 1)) (a : Added t q n c state t') where
  pub added_tree : state < count → Tree t' (n + 1) count
  added_tree b =
      record {
        some = omega arith;
        room = omega (arith, a.sized, room.words);
        siblings = latest_siblings (first_of t) (next_of t) (symbol_of t) (first_of t') (next_of t') (symbol_of t') q n c l tr.siblings a.latest;
        small = λ k h. low k h (dec_le (suc k) n);
      }
    where
      low : (k : ℕ) → k < n + 1 → Dec (k < n) → state_of t' k < count
      low k h (yes y) = let e = a.states k y in let g = tr.small k y in omega arith
      low k h (no y) =
          let e : k ≡ n = omega arith in
          let g = ap (λ (j : ℕ). state_of t' j) e ∙ a.state-is in omega arith

  -- a search that looks at as many nodes as before
  as_before : (k e : ℕ) → child_of t' k e ≡ seek (length t) (next_of t') (symbol_of t') (first_of t' k) e
  as_before k e = ap (λ (m : ℕ). seek m (next_of t') (symbol_of t') (first_of t' k) e) a.sized

  pub added_child : NewChild (child_of t) (child_of t') q n c
  added_child =
      let x = latest_child (first_of t) (next_of t) (symbol_of t) (first_of t') (next_of t') (symbol_of t') q n c l tr.siblings a.latest (length t) (omega (arith, room.words)) in
      record {
        child = as_before q c ∙ x.child;
        row = λ e o. as_before n e ∙ x.row e;
        other = λ k e h o d. as_before k e ∙ x.other k e h d;
      }
