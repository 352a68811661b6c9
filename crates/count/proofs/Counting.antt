-- A pattern goes into the tree of those before it, and the loop over the patterns.
-- Assumes nothing.
use mathlib.Core.Path.{◌≡◌, refl, sym, ap, ap₂, ◌∙◌, subst, subst₂}
use Prim.Native.Nat.{ℕ, suc, ◌+◌, ◌-◌, ◌*◌, ◌≤◌, ◌<◌}
use native.Mathlib.Omega.{arith}
use mathlib.Core.Bool.{true, false}
use mathlib.Core.List.{List, [], ◌∷◌, ◌++◌}
use lib.ListN.{length, get_or, take, set, replicate, length-replicate}
use lib.Seq.{take_all}
use Rattle.side.proofs.Writing.{zeros}
use Rattle.fitting.specs.Fitting.{Str}
use Rattle.tables.specs.States.{states, starts_any}
use Rattle.tables.specs.Words.{row_size}
use Rattle.tables.proofs.Truth.{clash}
use Rattle.rules.specs.Limits.{max_pattern}
use Rattle.side.specs.Patterns.{pattern_at, patterns_of, Patterns, state_count}
use Rattle.side.proofs.Inserting.{patterns_next, pattern_symbol, symbol_small}
use Rattle.count.specs.Chains.{at, child_of, Room, Chains, Alike}
use Rattle.count.specs.Tree.{key_of, nodes, first_with, Tree, Followed, Counted}
use Rattle.count.specs.declared.Branch.{Branch}
use Rattle.count.proofs.Starts.{first_lt, any_node}
use Rattle.count.proofs.Branching.{Branches, tree_branches, branches_tree, branches_same, branches_more}
use Rattle.count.proofs.Adding.{added}
use Rattle.tables.specs.Siblings.{seek, Attached}
use Rattle.tables.proofs.Siblings.{seek_zero}
use Rattle.count.proofs.Attaching.{chains_more, attached_alike, attached_chains, attached_child}
use Rattle.count.proofs.Following.{p_length, nodes_length}

module _ (ps ls : List ℕ) (i : ℕ) (ok : Patterns ps ls (i + 1)) where
  abbrev pats : List Str
  pats = patterns_of ps ls i

  abbrev p : Str
  p = pattern_at ps ls i

  module _ (fi nx ky : List ℕ) (ch : Chains fi nx ky (i + 1)) (tree : Tree pats (child_of fi nx ky)) where
    module _ (count : ℕ) (cn : count ≡ state_count ps ls i) (room : Room (i + 2) fi nx ky) (b : Branch) (f : Followed pats p b) where
      has : starts_any (take b.depth p) (nodes pats) ≡ true
      has = sym (any_node pats (take b.depth p)) ∙ f.has

      most : b.depth < length p → starts_any (take (suc b.depth) p) (nodes pats) ≡ false
      most l =
          let s : suc b.depth ≡ b.depth + 1 = omega arith in
          ap (λ (k : ℕ). starts_any (take k p) (nodes pats)) s ∙ sym (any_node pats (take (b.depth + 1) p)) ∙ f.most l

      pub count-is : count + (get_or ls i 0 - b.depth) ≡ state_count ps ls (i + 1)
      count-is =
          ap₂ (λ (k n : ℕ). k + (n - b.depth)) cn (sym (p_length ps ls i ok))
          ∙ sym (ap (λ (l : List Str). length (states l)) (patterns_next ps ls i) ∙ added pats p b.depth f.reached has most)

      pub room-more : Room (i + 1 + 1) fi nx ky
      room-more = record { firsts = omega (arith, room.firsts); nexts = omega (arith, room.nexts); keys = omega (arith, room.keys) }

      tree_of : (look : ℕ → ℕ → ℕ) → Branches (nodes pats ++ (p ∷ [])) look → Tree (patterns_of ps ls (i + 1)) look
      tree_of look l = subst (λ (x : List Str). Tree x look) (sym (patterns_next ps ls i)) (branches_tree (pats ++ (p ∷ [])) look l)

      -- nothing of p is new
      pub count_same : get_or ls i 0 ≤ b.depth → Counted ps ls (i + 1) fi nx ky count fi nx ky
      count_same h =
          let w : take b.depth p ≡ p = take_all b.depth p (omega (arith, (p_length ps ls i ok))) in
          record {
            count = (let e : count ≡ count + (get_or ls i 0 - b.depth) = omega arith in e) ∙ count-is;
            chains = chains_more fi nx ky (i + 1) ch room-more;
            tree = tree_of (child_of fi nx ky)
                (branches_same (nodes pats) p (child_of fi nx ky) (child_of fi nx ky) (tree_branches pats (child_of fi nx ky) tree)
                (ap (λ (x : Str). starts_any x (nodes pats)) (sym w) ∙ has) (λ k e l. refl));
            alike = record { firsts = refl; nexts = refl; keys = refl };
          }

      pub branch-lt : b.node < i + 1
      branch-lt = omega (arith, f.node, first_lt (take b.depth p) (nodes pats) has, (nodes_length ps ls i ok))

      pub branch-symbol : b.depth < get_or ls i 0 → (b.depth < max_pattern) × (get_or ps (max_pattern * i + b.depth) 0 < row_size)
      branch-symbol h = (omega (arith, ok.short i (omega arith)), symbol_small ps ls (i + 1) ok i (omega arith) b.depth h)

      -- p becomes a child of its node, under the key k
      module _ (h : b.depth < get_or ls i 0) (k : ℕ) (e : k ≡ key_of b.depth (get_or ps (max_pattern * i + b.depth) 0)) where
        abbrev fi₁ : List ℕ
        fi₁ = set fi b.node (i + 1)

        abbrev nx₁ : List ℕ
        nx₁ = set nx (i + 1) (get_or fi b.node 0)

        abbrev ky₁ : List ℕ
        ky₁ = set ky (i + 1) k

        symbol_is : get_or ps (max_pattern * i + b.depth) 0 ≡ get_or p b.depth 0
        symbol_is = sym (pattern_symbol ps ls (i + 1) ok i (omega arith) b.depth h)

        new : Attached (child_of fi nx ky) (child_of fi₁ nx₁ ky₁) (first_with (take b.depth p) (nodes pats)) (length (nodes pats)) (key_of b.depth (get_or p b.depth 0))
        new =
            subst (λ (q : ℕ). Attached (child_of fi nx ky) (child_of fi₁ nx₁ ky₁) q (length (nodes pats)) (key_of b.depth (get_or p b.depth 0))) f.node
            (subst₂ (λ (n c : ℕ). Attached (child_of fi nx ky) (child_of fi₁ nx₁ ky₁) b.node n c) (sym (nodes_length ps ls i ok)) (e ∙ ap (key_of b.depth) symbol_is)
            (attached_child fi nx ky b.node (i + 1) k branch-lt ch room-more))

        attached : Counted ps ls (i + 1) fi nx ky (count + (get_or ls i 0 - b.depth)) fi₁ nx₁ ky₁
        attached =
            record {
              count = count-is;
              chains = attached_chains fi nx ky b.node (i + 1) k branch-lt ch room-more;
              tree = tree_of (child_of fi₁ nx₁ ky₁)
                  (branches_more (nodes pats) p (child_of fi nx ky) (child_of fi₁ nx₁ ky₁) (tree_branches pats (child_of fi nx ky) tree) b.depth (omega (arith, (p_length ps ls i ok)))
                  (subst (λ (x : ℕ). x < row_size) symbol_is (branch-symbol h).1) has (most (omega (arith, (p_length ps ls i ok)))) new);
              alike = attached_alike fi nx ky b.node (i + 1) k branch-lt ch room-more;
            }

        pub count-more : (r : ℕ) → r ≡ count + (get_or ls i 0 - b.depth) → (fi₂ nx₂ ky₂ : List ℕ) → fi₂ ≡ fi₁ → nx₂ ≡ nx₁ → ky₂ ≡ ky₁ → Counted ps ls (i + 1) fi nx ky r fi₂ nx₂ ky₂
        count-more r re fi₂ nx₂ ky₂ a₁ a₂ a₃ =
            subst (λ (n : ℕ). Counted ps ls (i + 1) fi nx ky n fi₂ nx₂ ky₂) (sym re)
            (subst (λ (x : List ℕ). Counted ps ls (i + 1) fi nx ky (count + (get_or ls i 0 - b.depth)) x nx₂ ky₂) (sym a₁)
            (subst₂ (λ (x y : List ℕ). Counted ps ls (i + 1) fi nx ky (count + (get_or ls i 0 - b.depth)) fi₁ x y) (sym a₂) (sym a₃) attached))

-- ---- all patterns

pub alike_same : (fi nx ky : List ℕ) → Alike fi nx ky fi nx ky
alike_same fi nx ky = record { firsts = refl; nexts = refl; keys = refl }

-- the empty string alone
pub first : (ps ls fi nx ky : List ℕ) → Chains fi nx ky 1 → Counted ps ls 0 fi nx ky 1 fi nx ky
unfolding patterns_of
first ps ls fi nx ky ch =
    record {
      count = refl;
      chains = ch;
      tree = branches_tree [] (child_of fi nx ky) root;
      alike = alike_same fi nx ky;
    }
  where
    none : get_or fi 0 0 ≡ 0
    none = let g = ch.siblings.heads 0 (omega arith) in omega arith

    root : Branches ([] ∷ []) (child_of fi nx ky)
    root [] c a l = ap (λ (s : ℕ). seek (length nx) (at nx) (at ky) s (key_of 0 c)) none ∙ seek_zero (length nx) (at nx) (at ky) (key_of 0 c)
    root (x ∷ s) c a l = clash a refl

-- what the tree of i patterns asks of the next, and gives after it
module _ (ps ls : List ℕ) (n i : ℕ) (fi nx ky : List ℕ) (count : ℕ) (fi' nx' ky' : List ℕ) (a : Counted ps ls i fi nx ky count fi' nx' ky') where
  pub again : Counted ps ls i fi' nx' ky' count fi' nx' ky'
  again = record { count = a.count; chains = a.chains; tree = a.tree; alike = alike_same fi' nx' ky' }

  pub room_next : Room (n + 1) fi nx ky → i < n → Room (i + 2) fi' nx' ky'
  room_next r h =
      record { firsts = omega (arith, a.alike.firsts, r.firsts); nexts = omega (arith, a.alike.nexts, r.nexts); keys = omega (arith, a.alike.keys, r.keys) }

  pub another : (r : ℕ) (fi'' nx'' ky'' : List ℕ) → Counted ps ls (i + 1) fi' nx' ky' r fi'' nx'' ky'' → Counted ps ls (i + 1) fi nx ky r fi'' nx'' ky''
  another r fi'' nx'' ky'' b =
      record {
        count = b.count;
        chains = b.chains;
        tree = b.tree;
        alike = record { firsts = b.alike.firsts ∙ a.alike.firsts; nexts = b.alike.nexts ∙ a.alike.nexts; keys = b.alike.keys ∙ a.alike.keys };
      }

-- ---- arrays of zeros

pub zero_room : (n k : ℕ) → k ≤ n → Room k (replicate n 0) (replicate n 0) (replicate n 0)
zero_room n k h = let e = length-replicate {A = ℕ} n 0 in record { firsts = omega arith; nexts = omega arith; keys = omega arith }

pub zero_chains : (n : ℕ) → 1 ≤ n → Chains (replicate n 0) (replicate n 0) (replicate n 0) 1
zero_chains n h =
    record {
      room = zero_room n 1 h;
      siblings = record { heads = λ q l. let e = zeros n q in omega arith; falling = λ s p l. absurd (omega arith) };
      firsts_zero = λ k l. zeros n k;
      nexts_zero = λ k l. zeros n k;
    }
