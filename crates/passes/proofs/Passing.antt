-- The loops of the two passes: their common invariant, what one turn does to it, and what it comes to at the end.
-- Assumes nothing.
use mathlib.Core.Path.{◌≡◌, refl, sym, ap, ap₂, ◌∙◌, subst}
use mathlib.Core.Logic.{◌≢◌}
use Prim.Native.Nat.{ℕ, zero, suc, ◌+◌, ◌-◌, ◌*◌, ◌≤◌, ◌<◌}
use native.Mathlib.Omega.{arith}
use native.Mathlib.Decide.{dec_le}
use native.Mathlib.Numerals.{add-one}
use mathlib.Core.Bool.{Bool, true, false, ◌&&◌, and-false}
use mathlib.Core.List.{List, [], ◌∷◌, reverse, reverse-cons}
use lib.Dec.{ltb}
use borrow.Author.Tests.{lt-ltb, le-ltb}
use lib.ListN.{length, get_or, take, drop, set, length-set}
use lib.Seq.{get_or-set_same, get_or-set_other, take-suc, drop-cons, drop-length}
use Rattle.std.specs.Prelude.{Some, None, is_some}
use Rattle.tables.specs.Tables.{Table}
use Rattle.tables.specs.Words.{row_size}
use Rattle.tables.specs.Walk.{Step as State, step, pass, from, all_below}
use Rattle.tables.proofs.Walk.{pass_append}
use Rattle.passes.specs.Passes.{Stepped, rows_at, left_on, right_on, Passed}
use Rattle.passes.specs.declared.Step.{Step}

-- ---- a test at every position from 1 to n

pub all-below : (f : ℕ → Bool) (n : ℕ) → ((k : ℕ) → 1 ≤ k → k ≤ n → f k ≡ true) → all_below f n ≡ true
all-below f zero h = refl
all-below f (suc n) h = ap₂ ◌&&◌ (h (suc n) (omega arith) (omega arith)) (all-below f n (λ k a b. h k a (omega arith)))

pub not_below : (f : ℕ → Bool) (k n : ℕ) → 1 ≤ k → k ≤ n → f k ≡ false → all_below f n ≡ false
not_below f k zero a b e = absurd (omega arith)
not_below f k (suc n) a b e = go (dec_le k n) (λ y. not_below f k n a y e)
  where
    go : Dec (k ≤ n) → (k ≤ n → all_below f n ≡ false) → all_below f (suc n) ≡ false
    go (yes y) ih = ap (λ (b : Bool). f (suc n) && b) (ih y) ∙ and-false (f (suc n))
    go (no y) ih =
        let q : k ≡ suc n = omega arith in
        ap (λ (b : Bool). b && all_below f n) (ap f (sym q) ∙ e)

-- ---- a pass reads one symbol more

left_next : (t : Table) (k : ℕ) (f : List ℕ) (i : ℕ) → i < length f → left_on t k f (i + 1) ≡ step t (left_on t k f i) (get_or f i 0)
left_next t k f i h =
    ap (pass t (from k)) (ap (λ (n : ℕ). take n f) (add-one i) ∙ take-suc f i 0 h)
    ∙ pass_append t (from k) (take i f) (get_or f i 0 ∷ [])

right_next : (t : Table) (k : ℕ) (f : List ℕ) (i : ℕ) → 0 < i → i ≤ length f → right_on t k f (i - 1) ≡ step t (right_on t k f i) (get_or f (i - 1) 0)
right_next t k f i p h =
    let s : suc (i - 1) ≡ i = omega arith in
    let d : drop (i - 1) f ≡ get_or f (i - 1) 0 ∷ drop i f = drop-cons f (i - 1) 0 (omega arith) ∙ ap (λ (m : ℕ). get_or f (i - 1) 0 ∷ drop m f) s in
    ap (pass t (from k)) (ap reverse d ∙ reverse-cons (get_or f (i - 1) 0) (drop i f))
    ∙ pass_append t (from k) (reverse (drop i f)) (get_or f (i - 1) 0 ∷ [])

right_begin : (t : Table) (k : ℕ) (f : List ℕ) → right_on t k f (length f) ≡ from k
right_begin t k f = ap (λ (w : List ℕ). pass t (from k) (reverse w)) (drop-length f)

-- ---- the loop: it stands at position i, and the states of the positions from lo to hi are remembered

pub record Passing (at : ℕ → State) (count lo hi size : ℕ) (states : List ℕ) (s : Step) (i : ℕ) : Type 0 where
  pub here : s.state ≡ (at i).state
  pub looked : s.steps ≡ (at i).steps
  pub below : s.state < count
  pub room : length states ≡ size
  pub all : (k : ℕ) → lo ≤ k → k ≤ hi → get_or states k 0 ≡ (at k).state
  pub small : (k : ℕ) → lo ≤ k → k ≤ hi → get_or states k 0 < count

module _ (at : ℕ → State) (count : ℕ) where
  -- the next state is below the count, and is remembered at its position
  pub go_on : {lo hi size : ℕ} {states : List ℕ} {s : Step} {i : ℕ} → Passing at count lo hi size states s i → (lo' hi' : ℕ) (r : Step) (j : ℕ) → r.state ≡ (at j).state
      → r.steps ≡ (at j).steps → r.state < count → j < size → ((k : ℕ) → lo' ≤ k → k ≤ hi' → k ≢ j → (lo ≤ k) × (k ≤ hi))
      → Passing at count lo' hi' size (set states j r.state) r j
  go_on {lo} {hi} {size} {states} {s} {i} p lo' hi' r j e g b l old =
      record {
        here = e;
        looked = g;
        below = b;
        room = length-set states j r.state ∙ p.room;
        all = λ k m n. one k m n (dec_le k j) (dec_le j k);
        small = λ k m n. low k m n (dec_le k j) (dec_le j k);
      }
    where
      same : (k : ℕ) → k ≤ j → j ≤ k → get_or (set states j r.state) k 0 ≡ r.state
      same k a d =
          let q : k ≡ j = omega arith in
          ap (λ (m : ℕ). get_or (set states j r.state) m 0) q ∙ get_or-set_same states j r.state 0 (omega (arith, p.room))

      other : (k : ℕ) → k ≢ j → get_or (set states j r.state) k 0 ≡ get_or states k 0
      other k d = get_or-set_other states j k r.state 0 (omega arith)

      one : (k : ℕ) → lo' ≤ k → k ≤ hi' → Dec (k ≤ j) → Dec (j ≤ k) → get_or (set states j r.state) k 0 ≡ (at k).state
      one k m n (yes y) (yes z) = let q : j ≡ k = omega arith in same k y z ∙ e ∙ ap (λ (x : ℕ). (at x).state) q
      one k m n (yes y) (no z) = let d : k ≢ j = λ q. z (omega arith) in other k d ∙ p.all k (old k m n d).0 (old k m n d).1
      one k m n (no y) z = let d : k ≢ j = λ q. y (omega arith) in other k d ∙ p.all k (old k m n d).0 (old k m n d).1

      low : (k : ℕ) → lo' ≤ k → k ≤ hi' → Dec (k ≤ j) → Dec (j ≤ k) → get_or (set states j r.state) k 0 < count
      low k m n (yes y) (yes z) = subst (λ (q : ℕ). q < count) (sym (same k y z)) b
      low k m n (yes y) (no z) = let d : k ≢ j = λ q. z (omega arith) in subst (λ (q : ℕ). q < count) (sym (other k d)) (p.small k (old k m n d).0 (old k m n d).1)
      low k m n (no y) z = let d : k ≢ j = λ q. y (omega arith) in subst (λ (q : ℕ). q < count) (sym (other k d)) (p.small k (old k m n d).0 (old k m n d).1)

  -- it is not, and the tables are unusable
  pub stop : (n last most : ℕ) (j : ℕ) (q : ℕ) → q ≡ (at j).state → 1 ≤ j → j ≤ n → count ≤ q → (states : List ℕ) → Passed at count n last most states None
  stop n last most j q e a b h states =
      record {
        usable = sym (not_below (λ i. ltb (at i).state count) j n a b (ap (λ (x : ℕ). ltb x count) (sym e) ∙ le-ltb q count h));
        all = λ y. absurd (never y);
        small = λ y. absurd (never y);
        looked = λ y. absurd (never y);
        few = λ y. absurd (never y);
      }
    where
      never : is_some {T = ℕ} None ≡ true → ⊥
      never y = let z : ◌≡◌ {A = ℕ} 0 1 = cc in omega arith

  pub finished : {lo hi size : ℕ} {states : List ℕ} {s : Step} {i : ℕ} (n last most : ℕ) → Passing at count lo hi size states s i → lo ≤ 1 → n ≤ hi → i ≡ last → s.steps ≤ most
      → Passed at count n last most states (Some s.steps)
  finished {lo} {hi} {size} {states} {s} {i} n last most p l h q m =
      record {
        usable =
            sym (all-below (λ i. ltb (at i).state count) n
            (λ k a b. lt-ltb (at k).state count (subst (λ (q : ℕ). q < count) (p.all k (omega arith) (omega arith)) (p.small k (omega arith) (omega arith)))));
        all = λ y k a b. p.all k (omega arith) (omega arith);
        small = λ y k a b. p.small k (omega arith) (omega arith);
        looked = λ y. p.looked ∙ ap (λ (x : ℕ). (at x).steps) q;
        few = λ y. m;
      }

-- ---- the two passes

module _ (words : List ℕ) (rows count : ℕ) (f : List ℕ) (k : ℕ) where
  pub left_begin : (states : List ℕ) → 0 < count → Passing (left_on (rows_at words rows count) k f) count 1 0 (length states) states (record { state = 0; steps = k }) 0
  left_begin states h =
      record {
        here = refl;
        looked = refl;
        below = h;
        room = refl;
        all = λ j a b. absurd (omega arith);
        small = λ j a b. absurd (omega arith);
      }

  module _ (s : Step) (i : ℕ) (here : s.state ≡ (left_on (rows_at words rows count) k f i).state) (looked : s.steps ≡ (left_on (rows_at words rows count) k f i).steps)
      (h : i < length f) (r : Step) (e : Stepped words rows s (get_or f i 0) r) where
    pub left_state : r.state ≡ (left_on (rows_at words rows count) k f (i + 1)).state
    left_state =
        e.next ∙ ap (λ (q : ℕ). get_or words (rows + (row_size * q + get_or f i 0)) 0) here
        ∙ sym (ap (λ (x : State). x.state) (left_next (rows_at words rows count) k f i h))

    pub left_steps : r.steps ≡ (left_on (rows_at words rows count) k f (i + 1)).steps
    left_steps = e.more ∙ add-one s.steps ∙ ap suc looked ∙ sym (ap (λ (x : State). x.steps) (left_next (rows_at words rows count) k f i h))

  pub right_start : (states : List ℕ) → 0 < count → 0 < length f
      → Passing (right_on (rows_at words rows count) k f) count (length f) (length f - 1) (length states) states (record { state = 0; steps = k }) (length f)
  right_start states h l =
      record {
        here = sym (ap (λ (x : State). x.state) (right_begin (rows_at words rows count) k f));
        looked = sym (ap (λ (x : State). x.steps) (right_begin (rows_at words rows count) k f));
        below = h;
        room = refl;
        all = λ j a b. absurd (omega arith);
        small = λ j a b. absurd (omega arith);
      }

  module _ (s : Step) (i : ℕ) (here : s.state ≡ (right_on (rows_at words rows count) k f i).state) (looked : s.steps ≡ (right_on (rows_at words rows count) k f i).steps)
      (p : 0 < i) (h : i ≤ length f) (r : Step) (e : Stepped words rows s (get_or f (i - 1) 0) r) where
    pub right_state : r.state ≡ (right_on (rows_at words rows count) k f (i - 1)).state
    right_state =
        e.next ∙ ap (λ (q : ℕ). get_or words (rows + (row_size * q + get_or f (i - 1) 0)) 0) here
        ∙ sym (ap (λ (x : State). x.state) (right_next (rows_at words rows count) k f i p h))

    pub right_steps : r.steps ≡ (right_on (rows_at words rows count) k f (i - 1)).steps
    right_steps = e.more ∙ add-one s.steps ∙ ap suc looked ∙ sym (ap (λ (x : State). x.steps) (right_next (rows_at words rows count) k f i p h))
