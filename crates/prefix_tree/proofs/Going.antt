-- The loop of the shared left pass: its invariant, what one turn does to it, and what it comes to at the end.
-- Assumes nothing.
use mathlib.Core.Path.{◌≡◌, refl, sym, ap, ◌∙◌, subst}
use Prim.Native.Nat.{ℕ, ◌+◌, ◌-◌, ◌*◌, ◌≤◌, ◌<◌}
use native.Mathlib.Omega.{arith}
use native.Mathlib.Decide.{dec_le}
use Rattle.std.specs.Prelude.{Some, None}
use mathlib.Core.List.{List}
use lib.Dec.{ltb}
use lib.ListN.{length, get_or, take, set, length-set}
use lib.Seq.{get_or-set_same, get_or-set_other, get_or-take, take-take, length-take-le}
use borrow.Author.Tests.{lt-ltb, le-ltb}
use Rattle.fitting.specs.Fitting.{Str}
use Rattle.speech.specs.Places.{frame_size}
use Rattle.tables.specs.Tables.{Table}
use Rattle.tables.specs.Words.{row_size}
use Rattle.tables.specs.Walk.{pass, from}
use Rattle.tables.proofs.Truth.{clash}
use Rattle.passes.proofs.Passing.{all-below, not_below}
use Rattle.passes.specs.Passes.{max_steps, Symbols, rows_at, left_on}
use Rattle.prefix_tree.specs.Tree.{node_size, Room, state_of, Tree}
use Rattle.prefix_tree.specs.Sharing.{Holds, entry_of, standing, Descended, left_string, SharedPass}
use Rattle.prefix_tree.specs.declared.SharedStep.{SharedStep}
use Rattle.prefix_tree.proofs.Holding as H

-- for the strings ws that the tree held before
pub record Sharing (tab : Table) (ws : List Str) (f t left : List ℕ) (p : SharedStep) (i : ℕ) : Type 0 where
  pub holding : H.Holding tab ws (left_string f) t p.node p.nodes i
  pub all : (k : ℕ) → 1 ≤ k → k ≤ i → get_or left k 0 ≡ (left_on tab 0 f k).state

pub record Going (words : List ℕ) (rows count : ℕ) (f t₀ : List ℕ) (n₀ steps₀ : ℕ) (left₀ t left : List ℕ) (p : SharedStep) (i : ℕ) : Type 0 where
  pub reached : i ≤ length f - 1
  pub sized : length t ≡ length t₀
  pub left-sized : length left ≡ length left₀
  pub tree : Tree t p.nodes count
  pub node : p.node < p.nodes
  pub steps-are : p.steps + n₀ ≡ steps₀ + p.nodes
  pub few : p.nodes ≤ n₀ + i
  pub more : n₀ ≤ p.nodes
  pub small : (k : ℕ) → 1 ≤ k → k ≤ i → get_or left k 0 < count
  pub shares : (ws : List Str) → Holds (rows_at words rows count) ws t₀ n₀ → Sharing (rows_at words rows count) ws f t left p i

pub go-begin : (words : List ℕ) (rows count : ℕ) (f t : List ℕ) (n steps : ℕ) (left : List ℕ) → Tree t n count
    → Going words rows count f t n steps left t left (standing 0 n steps) 0
go-begin words rows count f t n steps left tr =
    record {
      reached = omega arith;
      sized = refl;
      left-sized = refl;
      tree = tr;
      node = tr.some;
      steps-are = refl;
      few = omega arith;
      more = omega arith;
      small = λ k a b. absurd (omega arith);
      shares = λ ws h. record { holding = H.hold-begin (rows_at words rows count) ws (left_string f) t n h; all = λ k a b. absurd (omega arith) };
    }

module _ {words : List ℕ} {rows count : ℕ} {f t₀ : List ℕ} {n₀ steps₀ : ℕ} {left₀ t left : List ℕ} {p : SharedStep} {i : ℕ} (g : Going words rows count f t₀ n₀ steps₀ left₀ t left p i) where
  abbrev tab : Table
  tab = rows_at words rows count

  string_length : length (left_string f) ≡ length f - 1
  string_length = length-take-le (length f - 1) f (omega arith)

  -- the pass over the frame and that over its string
  same_pass : (k : ℕ) → k ≤ length f - 1 → (pass tab (from 0) (take k (left_string f))).state ≡ (left_on tab 0 f k).state
  same_pass k h = ap (λ (w : Str). (pass tab (from 0) w).state) (take-take k (length f - 1) f h)

  pub go-end : 2 ≤ length f → length f - 1 ≤ i → SharedPass tab f t₀ n₀ steps₀ left₀ t left (Some (record { nodes = p.nodes; steps = p.steps }))
  go-end some h =
      record {
        sized = g.sized;
        left-sized = g.left-sized;
        grown = record {
          tree = g.tree;
          steps-are = g.steps-are;
          few = omega (arith, g.few, g.reached, some);
          more = g.more;
          small = λ k a b. g.small k a (omega arith);
        };
        shares = λ ws o. record {
          usable = sym (all-below (λ j. ltb (left_on tab 0 f j).state count) (length f - 1) (λ k a b. lt-ltb (left_on tab 0 f k).state count
              (subst (λ (s : ℕ). s < count) ((g.shares ws o).all k a (omega arith)) (g.small k a (omega arith)))));
          holds = H.hold-end tab ws (left_string f) t p.node p.nodes i (g.shares ws o).holding (omega (arith, string_length));
          all = λ _ k a b. (g.shares ws o).all k a (omega arith);
        };
      }

  module _ (h : i < length f - 1) (short : length f ≤ frame_size) (symbols : Symbols f) (room : Room t₀ (n₀ + (length f - 1))) (few : steps₀ + frame_size ≤ max_steps) where
    pub may-descend : (get_or f i 0 < row_size) × Tree t p.nodes count × (p.node < p.nodes) × Room t (p.nodes + 1) × (p.steps < max_steps)
    may-descend =
        (symbols i (omega arith), g.tree, g.node, record { few = omega (arith, g.few, room.few); words = omega (arith, g.few, g.sized, room.words) }, omega (arith, g.few, g.steps-are))

    symbol_is : get_or f i 0 ≡ get_or (left_string f) i 0
    symbol_is = sym (get_or-take (length f - 1) f i 0 h)

    pub go-bad : {t' : List ℕ} → Descended words rows count t p (get_or f i 0) None t' → SharedPass tab f t₀ n₀ steps₀ left₀ t' left None
    go-bad {t'} d =
        let o = H.out_of_range words rows count t p (get_or f i 0) g.tree g.node may-descend.3 t' d in
        record {
          sized = ap length o.1 ∙ g.sized;
          left-sized = g.left-sized;
          grown = tt;
          shares = λ ws w. record {
            usable = sym (not_below (λ j. ltb (left_on tab 0 f j).state count) (i + 1) (length f - 1) (omega arith) (omega arith)
                (le-ltb (left_on tab 0 f (i + 1)).state count (subst (λ (s : ℕ). count ≤ s) (entry_at ws w) o.0)));
            holds = tt;
            all = λ y. clash y refl;
          };
        }
      where
        entry_at : (ws : List Str) → Holds tab ws t₀ n₀ → entry_of words rows t p.node (get_or f i 0) ≡ (left_on tab 0 f (i + 1)).state
        entry_at ws w =
            H.entry-is words rows count t p (get_or f i 0) g.tree g.node may-descend.3 ws (left_string f) i (g.shares ws w).holding (omega (arith, string_length)) symbol_is
            ∙ same_pass (i + 1) (omega arith)

    module _ {r : SharedStep} {t' : List ℕ} (d : Descended words rows count t p (get_or f i 0) (Some r) t') where
      moved : H.Moved words rows count t p (get_or f i 0) g.tree g.node may-descend.3 r t' d
      moved = (H.moved-step words rows count t p (get_or f i 0) g.tree g.node may-descend.3 r t' d).0

      pub node_in : (node_size * r.node + 3 < length t') × (r.node < r.nodes) × (length t' ≡ length t₀)
      node_in = (omega (arith, moved.node, moved.tree.room), moved.node, moved.sized ∙ g.sized)

      pub go-next : length f ≤ length left₀ → {v : ℕ} → v ≡ state_of t' r.node → Going words rows count f t₀ n₀ steps₀ left₀ t' (set left (i + 1) v) r (i + 1)
      go-next wide {v} e =
          record {
            reached = omega arith;
            sized = moved.sized ∙ g.sized;
            left-sized = length-set left (i + 1) v ∙ g.left-sized;
            tree = moved.tree;
            node = moved.node;
            steps-are = omega (arith, moved.steps-are, g.steps-are);
            few = omega (arith, moved.few, g.few);
            more = omega (arith, moved.more, g.more);
            small = λ k a b. low k a b (dec_le k i);
            shares = λ ws o. record { holding = next ws o; all = λ k a b. one ws o k a b (dec_le k i) };
          }
        where
          next : (ws : List Str) → Holds tab ws t₀ n₀ → H.Holding tab ws (left_string f) t' r.node r.nodes (i + 1)
          next ws o =
              H.hold-next words rows count t p (get_or f i 0) g.tree g.node may-descend.3 r t' d ws (left_string f) i (g.shares ws o).holding (omega (arith, string_length)) symbol_is may-descend.0

          here : (k : ℕ) → k ≡ i + 1 → get_or (set left (i + 1) v) k 0 ≡ v
          here k q = ap (λ (m : ℕ). get_or (set left (i + 1) v) m 0) q ∙ get_or-set_same left (i + 1) v 0 (omega (arith, g.left-sized))

          before : (k : ℕ) → k ≤ i → get_or (set left (i + 1) v) k 0 ≡ get_or left k 0
          before k b = get_or-set_other left (i + 1) k v 0 (omega arith)

          low : (k : ℕ) → 1 ≤ k → k ≤ i + 1 → Dec (k ≤ i) → get_or (set left (i + 1) v) k 0 < count
          low k a b (yes y) = subst (λ (s : ℕ). s < count) (sym (before k y)) (g.small k a y)
          low k a b (no y) = subst (λ (s : ℕ). s < count) (sym (here k (omega arith) ∙ e)) (moved.tree.small r.node moved.node)

          one : (ws : List Str) → Holds tab ws t₀ n₀ → (k : ℕ) → 1 ≤ k → k ≤ i + 1 → Dec (k ≤ i) → get_or (set left (i + 1) v) k 0 ≡ (left_on tab 0 f k).state
          one ws o k a b (yes y) = before k y ∙ (g.shares ws o).all k a y
          one ws o k a b (no y) =
              let q : k ≡ i + 1 = omega arith in
              here k q ∙ e ∙ H.hold-state tab ws (left_string f) t' r.node r.nodes (i + 1) (next ws o) ∙ same_pass (i + 1) (omega arith) ∙ ap (λ (m : ℕ). (left_on tab 0 f m).state) (sym q)
