-- The tree while a string is read: its nodes are the prefixes of the strings before and of the symbols read so far, each with its state.
-- Assumes nothing.
use mathlib.Core.Path.{◌≡◌, refl, sym, ap, ap₂, ◌∙◌, subst}
use Prim.Native.Nat.{ℕ, suc, ◌+◌, ◌*◌, ◌≤◌, ◌<◌}
use native.Mathlib.Omega.{arith}
use native.Mathlib.Decide.{dec_le}
use native.Mathlib.Numerals.{add-one}
use mathlib.Core.List.{List, [], ◌∷◌, ◌++◌}
use lib.Dec.{eqb, eqb→eq}
use lib.ListN.{length, get_or, take, length-append, get_or-append}
use lib.Seq.{get_or_at, take-suc, take_all}
use borrow.Author.Tests.{eqb-false}
use Rattle.std.specs.Prelude.{Option, Some, None, is_some, unwrap_or}
use Rattle.rules.proofs.Cases.{by_bool}
use Rattle.fitting.specs.Fitting.{Str}
use Rattle.tables.specs.Tables.{Table}
use Rattle.tables.specs.Words.{row_size}
use Rattle.tables.specs.States.{states, member, number_one}
use Rattle.tables.specs.Walk.{Step as State, pass, from}
use Rattle.tables.proofs.Walk.{pass_append}
use Rattle.tables.proofs.Truth.{clash, true_eq}
use Rattle.tables.proofs.Numbering.{get_d_index}
use Rattle.side.specs.Steps.{Step}
use Rattle.side.proofs.Inserting as I
use Rattle.passes.specs.Passes.{rows_at}
use Rattle.prefix_tree.specs.Tree.{Room, state_of, child_of, Tree}
use Rattle.prefix_tree.specs.Sharing.{Holds, entry_of, standing, Descended}
use Rattle.prefix_tree.specs.declared.SharedStep.{SharedStep}
use Rattle.prefix_tree.proofs.Growing.{child_lt, added_tree, added_child}

-- ---- one string is numbered

one_same : (st : List Str) (x : Str) → length (number_one st x) ≡ length st → number_one st x ≡ st
one_same st x e =
    by_bool (member x st) (λ b. rw b)
    (λ b. let l : length (st ++ (x ∷ [])) ≡ length st = rw b at e in absurd (omega (arith, length-append st (x ∷ []))))

one_more : (st : List Str) (x : Str) → length (number_one st x) ≡ length st + 1 → number_one st x ≡ st ++ (x ∷ [])
one_more st x e =
    by_bool (member x st)
    (λ b. let l : length st ≡ length st + 1 = rw b at e in absurd (omega arith))
    (λ b. rw b)

-- ---- a string is read

-- q is the node of its first i symbols
pub record Holding (tab : Table) (ws : List Str) (p : Str) (t : List ℕ) (q n i : ℕ) : Type 0 where
  pub tree : I.Inserting ws p (child_of t) q n i
  pub held : (k : ℕ) → k < n → state_of t k ≡ (pass tab (from 0) (get_or (I.upto ws p i) k [])).state

module _ (tab : Table) (ws : List Str) (p : Str) (t : List ℕ) where
  pub hold-begin : (n : ℕ) → Holds tab ws t n → Holding tab ws p t 0 n 0
  hold-begin n h =
      record {
        tree = I.begin ws p (child_of t) n h.children h.count;
        held = λ k l. h.held k l ∙ ap (λ (st : List Str). (pass tab (from 0) (get_or st k [])).state) (sym (I.upto_zero ws p));
      }

  module _ (q n i : ℕ) (h : Holding tab ws p t q n i) where
    pub hold-end : length p ≤ i → Holds tab (ws ++ (p ∷ [])) t n
    hold-end l =
        let f = I.finished ws p (child_of t) q n i h.tree l in
        record {
          count = f.0;
          children = f.1;
          held = λ k b. h.held k b ∙ ap (λ (w : Str). (pass tab (from 0) (get_or (states (ws ++ (w ∷ []))) k [])).state) (take_all i p l);
        }

    pub hold_below : q < n
    hold_below = I.below ws p (child_of t) q n i h.tree

    -- the string of its node
    string_is : get_or (I.upto ws p i) q [] ≡ take i p
    string_is = ap (λ (k : ℕ). get_or (I.upto ws p i) k []) h.tree.state ∙ get_d_index (take i p) (I.upto ws p i) (I.has-prefix ws p i)

    pub hold-state : state_of t q ≡ (pass tab (from 0) (take i p)).state
    hold-state = h.held q hold_below ∙ ap (λ (w : Str). (pass tab (from 0) w).state) string_is

-- ---- a step down

some_same : (a b : SharedStep) → Some a ≡ Some b → a ≡ b
some_same a b e = ap (λ (o : Option SharedStep). unwrap_or o a) e

module _ (words : List ℕ) (rows count : ℕ) (t : List ℕ) (a : SharedStep) (c : ℕ) (tr : Tree t a.nodes count) (below : a.node < a.nodes) (room : Room t (a.nodes + 1)) where
  abbrev child : ℕ
  child = child_of t a.node c

  abbrev entry : ℕ
  entry = entry_of words rows t a.node c

  -- it fails only for a state that is out of range
  pub out_of_range : (t' : List ℕ) → Descended words rows count t a c None t' → (count ≤ entry) × (t' ≡ t)
  out_of_range t' d =
      by_bool (eqb child 0)
      (λ b. go (eqb→eq child 0 (true_eq (eqb child 0) b)) (dec_le count entry))
      (λ b. never _ (d.found (eqb-false child 0 b)).0)
    where
      never : (s : SharedStep) → None ≡ Some s → (count ≤ entry) × (t' ≡ t)
      never s e = clash (ap is_some e) refl

      go : child ≡ 0 → Dec (count ≤ entry) → (count ≤ entry) × (t' ≡ t)
      go z (yes y) = (y, (d.bad z y).1)
      go z (no y) = never _ (d.made z (omega arith)).0

  module _ (ws : List Str) (p : Str) (i : ℕ) (h : Holding (rows_at words rows count) ws p t a.node a.nodes i) (l : i < length p) (is : c ≡ get_or p i 0) where
    abbrev tab : Table
    tab = rows_at words rows count

    abbrev st : List Str
    st = I.upto ws p i

    abbrev new : Str
    new = take i p ++ (get_or p i 0 ∷ [])

    -- the entry is the state of the symbols so far and this one
    pub entry-is : entry ≡ (pass tab (from 0) (take (i + 1) p)).state
    entry-is =
        ap₂ (λ (s k : ℕ). get_or words (rows + (row_size * s + k)) 0) (hold-state tab ws p t a.node a.nodes i h) is
        ∙ sym (ap (λ (x : State). x.state) (ap (pass tab (from 0)) (ap (λ (k : ℕ). take k p) (add-one i) ∙ take-suc p i 0 l) ∙ pass_append tab (from 0) (take i p) (get_or p i 0 ∷ [])))

    entry_new : entry ≡ (pass tab (from 0) new).state
    entry_new = entry-is ∙ ap (λ (w : Str). (pass tab (from 0) w).state) (ap (λ (k : ℕ). take k p) (add-one i) ∙ take-suc p i 0 l)

  module _ (r : SharedStep) (t' : List ℕ) (d : Descended words rows count t a c (Some r) t') where
    -- what it leaves, whatever the nodes stand for
    pub record Moved : Type 0 where
      pub sized : length t' ≡ length t
      pub tree : Tree t' r.nodes count
      pub node : r.node < r.nodes
      pub steps-are : r.steps + a.nodes ≡ a.steps + r.nodes
      pub few : r.nodes ≤ a.nodes + 1
      pub more : a.nodes ≤ r.nodes

    stands : (q n k : ℕ) → Some r ≡ Some (standing q n k) → (r.node ≡ q) × (r.nodes ≡ n) × (r.steps ≡ k)
    stands q n k e =
        let g = some_same r (standing q n k) e in
        (ap (λ (x : SharedStep). x.node) g, ap (λ (x : SharedStep). x.nodes) g, ap (λ (x : SharedStep). x.steps) g)

    no_entry : {A : Type 0} → child ≡ 0 → count ≤ entry → A
    no_entry z y = clash refl (ap is_some (d.bad z y).0)

    pub moved-step : Moved × Step (child_of t) (child_of t') a.node a.nodes c r.node r.nodes
    moved-step =
        by_bool (eqb child 0)
        (λ b. made (eqb→eq child 0 (true_eq (eqb child 0) b)) (dec_le count entry))
        (λ b. found (eqb-false child 0 b))
      where
        found : (child ≡ 0 → ⊥) → Moved × Step (child_of t) (child_of t') a.node a.nodes c r.node r.nodes
        found z =
            let f = stands _ _ _ (d.found z).0 in
            let e = (d.found z).1 in
            let b = child_lt t a.nodes count tr a.node c below in (
              record {
                sized = ap length e;
                tree = subst (λ (x : List ℕ). Tree x r.nodes count) (sym e) (subst (λ (k : ℕ). Tree t k count) (sym f.1) tr);
                node = omega (arith, f.0, f.1);
                steps-are = omega (arith, f.1, f.2);
                few = omega (arith, f.1);
                more = omega (arith, f.1);
              },
              record {
                found = λ _. (f.0, (f.1, λ k o l m. ap (λ (x : List ℕ). child_of x k o) e));
                made = λ y. absurd (z y);
              },
            )

        made : child ≡ 0 → Dec (count ≤ entry) → Moved × Step (child_of t) (child_of t') a.node a.nodes c r.node r.nodes
        made z (yes y) = no_entry z y
        made z (no y) =
            let q = d.made z (omega arith) in
            let f = stands _ _ _ q.0 in
            let e = q.1 in (
              record {
                sized = e.sized;
                tree = subst (λ (k : ℕ). Tree t' k count) (sym f.1) (added_tree t a.node a.nodes c entry count t' below tr room e (omega arith));
                node = omega (arith, f.0, f.1);
                steps-are = omega (arith, f.1, f.2);
                few = omega (arith, f.1);
                more = omega (arith, f.1);
              },
              record {
                found = λ x. absurd (x z);
                made = λ _. (f.0, (f.1, added_child t a.node a.nodes c entry count t' below tr room e));
              },
            )

    module _ (ws : List Str) (p : Str) (i : ℕ) (h : Holding (rows_at words rows count) ws p t a.node a.nodes i) (l : i < length p) (is : c ≡ get_or p i 0) (small : c < row_size) where
      abbrev rows_tab : Table
      rows_tab = rows_at words rows count

      abbrev before : List Str
      before = st ws p i h l is

      abbrev more : Str
      more = new ws p i h l is

      pub hold-next : Holding rows_tab ws p t' r.node r.nodes (i + 1)
      hold-next =
          record {
            tree = tree_next;
            held = λ k b. by_bool (eqb child 0)
                (λ z. made (eqb→eq child 0 (true_eq (eqb child 0) z)) (dec_le count entry) k b (dec_le (suc k) a.nodes))
                (λ z. found (eqb-false child 0 z) k b);
          }
        where
          tree_next : I.Inserting ws p (child_of t') r.node r.nodes (i + 1)
          tree_next =
              (I.next ws p (child_of t) a.node a.nodes i h.tree l (subst (λ (k : ℕ). k < row_size) is small) (child_of t') r.node r.nodes
              (subst (λ (k : ℕ). Step (child_of t) (child_of t') a.node a.nodes k r.node r.nodes) is moved-step.1)).0

          grown : length (number_one before more) ≡ r.nodes
          grown = ap length (sym (I.upto_next ws p i l)) ∙ sym tree_next.count

          found : (child ≡ 0 → ⊥) → (k : ℕ) → k < r.nodes → state_of t' k ≡ (pass rows_tab (from 0) (get_or (I.upto ws p (i + 1)) k [])).state
          found z k b =
              let f = stands _ _ _ (d.found z).0 in
              let e : number_one before more ≡ before = one_same before more (grown ∙ f.1 ∙ h.tree.count) in
              ap (λ (x : List ℕ). state_of x k) (d.found z).1 ∙ h.held k (omega (arith, f.1))
              ∙ ap (λ (x : List Str). (pass rows_tab (from 0) (get_or x k [])).state) (sym (I.upto_next ws p i l ∙ e))

          made : child ≡ 0 → Dec (count ≤ entry) → (k : ℕ) → k < r.nodes → Dec (k < a.nodes) → state_of t' k ≡ (pass rows_tab (from 0) (get_or (I.upto ws p (i + 1)) k [])).state
          made z (yes y) k b o = no_entry z y
          made z (no y) k b (yes o) =
              let q = d.made z (omega arith) in
              let f = stands _ _ _ q.0 in
              let e : number_one before more ≡ before ++ (more ∷ []) = one_more before more (grown ∙ f.1 ∙ ap (λ (m : ℕ). m + 1) h.tree.count) in
              q.1.states k o ∙ h.held k o
              ∙ ap (λ (w : Str). (pass rows_tab (from 0) w).state) (sym (ap (λ (x : List Str). get_or x k []) (I.upto_next ws p i l ∙ e) ∙ get_or-append before (more ∷ []) [] k (omega (arith, h.tree.count))))
          made z (no y) k b (no o) =
              let q = d.made z (omega arith) in
              let f = stands _ _ _ q.0 in
              let e : number_one before more ≡ before ++ (more ∷ []) = one_more before more (grown ∙ f.1 ∙ ap (λ (m : ℕ). m + 1) h.tree.count) in
              let n : k ≡ a.nodes = omega (arith, f.1) in
              ap (λ (x : ℕ). state_of t' x) n ∙ q.1.state-is ∙ entry_new ws p i h l is
              ∙ ap (λ (w : Str). (pass rows_tab (from 0) w).state) (sym (ap (λ (x : List Str). get_or x k []) (I.upto_next ws p i l ∙ e) ∙ get_or_at before more [] [] k (sym (n ∙ h.tree.count))))
