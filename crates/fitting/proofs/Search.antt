-- The first rule of a list that passes a test, and how many pass it: as loops find them, and said of places.
-- Assumes nothing.
use Prim.Native.Nat.{ℕ, zero, suc, ◌+◌, ◌≤◌, ◌<◌}
use mathlib.Core.Path.{◌≡◌, refl, sym, ap, ◌∙◌, subst}
use mathlib.Core.List.{List, [], ◌∷◌}
use mathlib.Core.Bool.{Bool, true, false, cond}
use native.Mathlib.Omega.{arith}
use native.Mathlib.Numerals.{add-one}
use lib.ListN.{length, get_or, drop, drop_of_length-le, length-drop}
use lib.Seq.{drop-cons}
use Rattle.image.specs.State.{no_entry}
use Rattle.rules.proofs.Cases.{by_bool}
use Rattle.rules.specs.Shape.{Entry}
use Rattle.image.specs.Image.{entries_of, valid, entry_at, count_of, classes_of}
use Rattle.image.proofs.Entries.{entry_shaped, entries_length}
use Rattle.fitting.specs.Fitting.{Str, fits_by}
use Rattle.fitting.specs.Reading.{Application, apply, chosen, nothing, unusable, past, Targets, passing, first_rule, first_fit}
use Rattle.fitting.specs.declared.Fit.{Fit}
use Rattle.std.specs.Prelude.{Some, None}
use Rattle.fitting.specs.Search.{FitAt}

pub valid_targets : (d : List ℕ) → valid d ≡ true → Targets (entries_of d)
valid_targets d ok p h = (entry_shaped d ok p (omega (arith, entries_length d))).target-least

-- a is the rule at a place, applied where n fit: it passes, and none before it does
pub record Found (t : Entry → Bool) (n : ℕ) (l : List Entry) (a : Application) : Type 0 where
  pub place : ℕ
  pub inside : place < length l
  pub here : apply n (get_or l place no_entry) ≡ a
  pub passes : t (get_or l place no_entry) ≡ true
  pub none_before : (p : ℕ) → p < place → t (get_or l p no_entry) ≡ false

module _ (t : Entry → Bool) (n : ℕ) where
  differ : (a : Application) → nothing ≡ chosen a → ⊥
  differ a e = let z : ◌≡◌ {A = ℕ} 0 1 = cc in omega arith

  later : (x : Entry) (l : List Entry) (a : Application) → t x ≡ false → Found t n l a → Found t n (x ∷ l) a
  later x l a q f = record {
    place = suc f.place;
    inside = omega (arith, f.inside);
    here = f.here;
    passes = f.passes;
    none_before = before;
  }
    where
      before : (p : ℕ) → p < suc f.place → t (get_or (x ∷ l) p no_entry) ≡ false
      before zero h = q
      before (suc p) h = f.none_before p (omega arith)

  pub first_found : (l : List Entry) (a : Application) → first_rule t n l ≡ chosen a → Found t n l a
  first_found [] a e = absurd (differ a e)
  first_found (x ∷ l) a e =
      by_bool (t x)
      (λ q.
      let h : chosen (apply n x) ≡ chosen a = rw q at e in
      let g : apply n x ≡ a = cc in
      record { place = 0; inside = omega arith; here = g; passes = q; none_before = λ p u. absurd (omega arith) })
      (λ q. later x l a q (first_found l a (rw q at e)))

  -- it tells that n rules fit
  pub first_tells : (l : List Entry) (a : Application) → first_rule t n l ≡ chosen a → a.fitting ≡ n
  first_tells l a e = sym (ap (λ (x : Application). x.fitting) (first_found l a e).here)

  pub found_first : (l : List Entry) (p : ℕ) → p < length l → t (get_or l p no_entry) ≡ true → ((k : ℕ) → k < p → t (get_or l k no_entry) ≡ false)
      → first_rule t n l ≡ chosen (apply n (get_or l p no_entry))
  found_first [] p i y b = absurd (omega arith)
  found_first (x ∷ l) zero i y b = rw y
  found_first (x ∷ l) (suc p) i y b = rw (b 0 (omega arith)) (found_first l p (omega arith) y (λ k u. b (suc k) (omega arith)))

  pub first_none : (l : List Entry) → first_rule t n l ≡ nothing → (p : ℕ) → p < length l → t (get_or l p no_entry) ≡ false
  first_none [] e p h = absurd (omega arith)
  first_none (x ∷ l) e zero h = by_bool (t x) (λ q. absurd (differ (apply n x) (sym (rw q at e)))) (λ q. q)
  first_none (x ∷ l) e (suc p) h = by_bool (t x) (λ q. absurd (differ (apply n x) (sym (rw q at e)))) (λ q. first_none l (rw q at e) p (omega arith))

  pub none_first : (l : List Entry) → ((p : ℕ) → p < length l → t (get_or l p no_entry) ≡ false) → first_rule t n l ≡ nothing
  none_first [] b = refl
  none_first (x ∷ l) b = rw (b 0 (omega arith)) (none_first l (λ p h. b (suc p) (omega arith)))

  -- a search is never unusable
  pub first_usable : (l : List Entry) → first_rule t n l ≡ unusable → ⊥
  first_usable [] e = let z : ◌≡◌ {A = ℕ} 0 1 = cc in omega arith
  first_usable (x ∷ l) e = by_bool (t x) (λ q. never (apply n x) (rw q at e)) (λ q. first_usable l (rw q at e))
    where
      never : (a : Application) → chosen a ≡ unusable → ⊥
      never a e = let z : ◌≡◌ {A = ℕ} 0 1 = cc in omega arith

  pub first_past : (l : List Entry) → Targets l → (i : ℕ) (a : Application) → first_rule t n l ≡ chosen a → i < past i a
  first_past l k i a e =
      let f = first_found l a e in
      let g : 0 < length a.target = subst (λ (x : Application). 0 < length x.target) f.here (k f.place f.inside) in
      omega arith

-- ---- how many rules pass

module _ (t : Entry → Bool) where
  one_most : (b : Bool) → cond b 1 0 ≤ 1
  one_most true = omega arith
  one_most false = omega arith

  pub passing_most : (l : List Entry) → passing t l ≤ length l
  passing_most [] = omega arith
  passing_most (x ∷ l) = omega (arith, passing_most l, one_most (t x))

-- ---- loops over the places of an image

module _ (d : List ℕ) (f : Str) (i : ℕ) where
  abbrev test : Entry → Bool
  test r = fits_by (classes_of d) r.rule f i

  -- those from p on that fit
  abbrev pub fits_from : ℕ → ℕ
  fits_from p = passing (λ r. fits_by (classes_of d) r.rule f i) (drop p (entries_of d))

  pub fits_most : (p : ℕ) → fits_from p ≤ count_of d
  fits_most p = omega (arith, passing_most test (drop p (entries_of d)), length-drop p (entries_of d), entries_length d)

  -- after p rules none has fitted, and the rest decides
  pub record Searched (p : ℕ) : Type 0 where
    pub choice : first_fit (classes_of d) (entries_of d) f i ≡ first_rule (λ r. fits_by (classes_of d) r.rule f i) (fits_from 0) (drop p (entries_of d))
    pub many : fits_from 0 ≡ fits_from p

  pub search_begin : Searched 0
  search_begin = record { choice = refl; many = refl }

  pub count_end : (p : ℕ) → count_of d ≤ p → fits_from p ≡ 0
  count_end p h = ap (passing test) (drop_of_length-le (entries_of d) {i = p} (omega (arith, entries_length d)))

  module _ (p : ℕ) (h : p < count_of d) where
    at_front : drop p (entries_of d) ≡ entry_at d p ∷ drop (p + 1) (entries_of d)
    at_front = drop-cons (entries_of d) p no_entry (omega (arith, entries_length d)) ∙ ap (λ (k : ℕ). entry_at d p ∷ drop k (entries_of d)) (sym (add-one p))

    pub count_next : (b : Bool) → fits_by (classes_of d) (entry_at d p).rule f i ≡ b → fits_from p ≡ cond b 1 0 + fits_from (p + 1)
    count_next b y = ap (passing test) at_front ∙ ap (λ (c : Bool). cond c 1 0 + fits_from (p + 1)) y

    first_next : (n : ℕ) (b : Bool) → fits_by (classes_of d) (entry_at d p).rule f i ≡ b
        → first_rule test n (drop p (entries_of d)) ≡ cond b (chosen (apply n (entry_at d p))) (first_rule test n (drop (p + 1) (entries_of d)))
    first_next n b y =
        ap (first_rule test n) at_front ∙ ap (λ (c : Bool). cond c (chosen (apply n (entry_at d p))) (first_rule test n (drop (p + 1) (entries_of d)))) y

    module _ (s : Searched p) where
      pub search_found : fits_by (classes_of d) (entry_at d p).rule f i ≡ true → (n : ℕ) → n ≡ fits_from p → FitAt d f i (Some (record { place = p; fitting = n }))
      search_found y n e = record {
        choice = s.choice ∙ (first_next (fits_from 0) true y ∙ ap (λ (k : ℕ). chosen (apply k (entry_at d p))) (s.many ∙ sym e));
        inside = λ x u. let g : ◌≡◌ {A = Fit} (record { place = p; fitting = n }) x = cc in (rw (← g) (omega arith), rw (← g) (omega (arith, fits_most p)));
      }

      pub search_next : fits_by (classes_of d) (entry_at d p).rule f i ≡ false → Searched (p + 1)
      search_next y = record {
        choice = s.choice ∙ first_next (fits_from 0) false y;
        many = s.many ∙ (count_next false y ∙ omega arith);
      }

  pub search_none : (p : ℕ) → Searched p → count_of d ≤ p → FitAt d f i None
  search_none p s h = record {
    choice = s.choice ∙ ap (first_rule test (fits_from 0)) (drop_of_length-le (entries_of d) {i = p} (omega (arith, entries_length d)));
    inside = λ x u. let z : ◌≡◌ {A = ℕ} 0 1 = cc in absurd (omega arith);
  }
