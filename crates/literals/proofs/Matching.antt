-- Letters of a frame against choice j of a run of symbols, as a loop goes over it from the end: what is left of j, and that the letters passed are
-- those of the choice.
-- Assumes nothing.
use Prim.Native.Nat.{ℕ, zero, suc, ◌+◌, ◌-◌, ◌/◌, ◌%◌, ◌≤◌, ◌<◌}
use mathlib.Core.Path.{◌≡◌, refl, sym, ap, ap₂, ◌∙◌, subst}
use mathlib.Core.List.{[], ◌∷◌}
use mathlib.Core.Bool.{Bool, true, false, cond, ◌&&◌}
use native.Mathlib.Nat.{div-one, div-div-eq-div-mul, mul_comm}
use native.Mathlib.Omega.{arith}
use lib.Dec.{eqb}
use lib.ListN.{length, get_or, take, drop, length-drop, drop_of_length-le}
use lib.Seq.{drop-cons, get_or-take, get_or-drop, length-take-le}
use Rattle.std.specs.Prelude.{Some, None}
use Rattle.std.specs.Option.{is_some}
use Rattle.rules.proofs.Cases.{by_bool, and_r}
use Rattle.classes.specs.Classes.{Classes, letters}
use Rattle.classes.specs.Expansion.{size}
use Rattle.classes.specs.Ordinal.{choice_at}
use Rattle.classes.specs.Steps.{stepped}
use Rattle.classes.proofs.Ordinal.{choice_cons, choice_none, choice_long, choice_drop, size_drop}
use Rattle.fitting.specs.Fitting.{Str, same, starts, ends}
use Rattle.fitting.proofs.Strings.{clash, starts_past, starts_run, ends_past, ends_run}
use Rattle.literals.specs.Matching.{matched, started}

-- ---- the answer of a comparison

cond_yes : (b : Bool) (q n : ℕ) → cond b (Some n) None ≡ Some q → b ≡ true
cond_yes true q n e = refl
cond_yes false q n e = let z : ◌≡◌ {A = ℕ} 0 1 = cc in absurd (omega arith)

cond_rest : (b : Bool) (q n : ℕ) → cond b (Some n) None ≡ Some q → n ≡ q
cond_rest true q n e = cc
cond_rest false q n e = let z : ◌≡◌ {A = ℕ} 0 1 = cc in absurd (omega arith)

cond_no : (b : Bool) (n : ℕ) → cond b (Some n) None ≡ None → b ≡ false
cond_no true n e = let z : ◌≡◌ {A = ℕ} 0 1 = cc in absurd (omega arith)
cond_no false n e = refl

cond_some : (b : Bool) (n : ℕ) → is_some (cond b (Some n) None) ≡ b
cond_some true n = refl
cond_some false n = refl

same_drop : (i : ℕ) (s w : Str) → same s w ≡ true → same (drop i s) (drop i w) ≡ true
same_drop zero s w e = e
same_drop (suc i) [] [] e = refl
same_drop (suc i) [] (y ∷ w) e = clash e refl
same_drop (suc i) (x ∷ s) [] e = clash e refl
same_drop (suc i) (x ∷ s) (y ∷ w) e = same_drop i s w (and_r (eqb x y) (same s w) e)

-- ---- what is left of j, symbol by symbol from the end

module _ (k : Classes) (s : Str) (j : ℕ) where
  pub quotient_begin : j ≡ j / size k (drop (length s) s)
  quotient_begin = sym (ap (λ (x : Str). j / size k x) (drop_of_length-le s {i = length s} (omega arith)) ∙ div-one j)

  pub quotient_next : (q i : ℕ) → i < length s → q ≡ j / size k (drop (suc i) s) → q / length (letters k (get_or s i 0)) ≡ j / size k (drop i s)
  quotient_next q i h e =
      let n = length (letters k (get_or s i 0)) in
      ap (λ (x : ℕ). x / n) e
      ∙ (div-div-eq-div-mul j (size k (drop (suc i) s)) n
      ∙ (ap (λ (x : ℕ). j / x) (mul_comm (size k (drop (suc i) s)) n) ∙ ap (λ (x : Str). j / size k x) (sym (drop-cons s i 0 h))))

-- ---- the loop

-- q is left of j, and from i on the letters are those of choice j
pub record Matching (k : Classes) (s : Str) (j : ℕ) (f : Str) (to q i : ℕ) : Type 0 where
  pub reached : i ≤ length s
  pub left : q ≡ j / size k (drop i s)
  pub alike : same (choice_at k (drop i s) j) (drop i (take (length s) (drop to f))) ≡ true

module _ (k : Classes) (s : Str) (ok : 1 ≤ size k s) (j : ℕ) (f : Str) (to : ℕ) (inside : to + length s ≤ length f) where
  -- the letters compared
  abbrev seen : Str
  seen = take (length s) (drop to f)

  seen_long : length seen ≡ length s
  seen_long = length-take-le (length s) (drop to f) (omega (arith, length-drop to f))

  pub match_begin : Matching k s j f to j (length s)
  match_begin =
      record {
        reached = omega arith;
        left = quotient_begin k s j;
        alike =
            ap₂ (λ (x y : Str). same (choice_at k x j) y) (drop_of_length-le s {i = length s} (omega arith)) (drop_of_length-le seen {i = length s} (omega (arith, seen_long)))
            ∙ ap (λ (x : Str). same x []) (choice_none k j);
      }

  module _ (q i : ℕ) (m : Matching k s j f to q i) (h : 0 < i) where
    -- the symbol compared, and its letter
    abbrev c : ℕ
    c = get_or s (i - 1) 0

    abbrev y : ℕ
    y = get_or f (to + (i - 1)) 0

    here : suc (i - 1) ≡ i
    here = omega arith

    front : drop (i - 1) s ≡ c ∷ drop i s
    front = drop-cons s (i - 1) 0 (omega (arith, m.reached)) ∙ ap (λ (n : ℕ). c ∷ drop n s) here

    seen_front : drop (i - 1) seen ≡ y ∷ drop i seen
    seen_front =
        drop-cons seen (i - 1) 0 (omega (arith, seen_long, m.reached))
        ∙ ap₂ (λ (x n : ℕ). x ∷ drop n seen) (get_or-take (length s) (drop to f) (i - 1) 0 (omega (arith, m.reached)) ∙ get_or-drop to f (i - 1) 0) here

    alike_is : same (choice_at k (drop (i - 1) s) j) (drop (i - 1) seen) ≡ (eqb (get_or (letters k c) (q % length (letters k c)) 0) y && same (choice_at k (drop i s) j) (drop i seen))
    alike_is =
        let z : 1 ≤ size k (c ∷ drop i s) = subst (λ (x : Str). 1 ≤ size k x) front (size_drop k s (i - 1) ok) in
        ap₂ (λ (x w : Str). same (choice_at k x j) w) front seen_front
        ∙ (ap (λ (x : Str). same x (y ∷ drop i seen)) (choice_cons k c (drop i s) j z)
        ∙ ap (λ (x : ℕ). eqb (get_or (letters k c) (x % length (letters k c)) 0) y && same (choice_at k (drop i s) j) (drop i seen)) (sym m.left))

    -- the letter is the choice's
    pub match_next : (r : ℕ) → stepped k c y q ≡ Some r → Matching k s j f to r (i - 1)
    match_next r e = record {
      reached = omega (arith, m.reached);
      left =
          sym (cond_rest (eqb (get_or (letters k c) (q % length (letters k c)) 0) y) r (q / length (letters k c)) e)
          ∙ quotient_next k s j q (i - 1) (omega (arith, m.reached)) (m.left ∙ ap (λ (n : ℕ). j / size k (drop n s)) (sym here));
      alike = alike_is ∙ ap₂ ◌&&◌ (cond_yes (eqb (get_or (letters k c) (q % length (letters k c)) 0) y) r (q / length (letters k c)) e) m.alike;
    }

    -- it is not
    pub match_off : stepped k c y q ≡ None → None ≡ matched k s (take (length s) (drop to f)) j
    match_off e =
        let t : same (choice_at k (drop (i - 1) s) j) (drop (i - 1) seen) ≡ false =
        alike_is ∙ ap (λ (b : Bool). b && same (choice_at k (drop i s) j) (drop i seen)) (cond_no (eqb (get_or (letters k c) (q % length (letters k c)) 0) y) (q / length (letters k c)) e) in
        by_bool (same (choice_at k s j) seen)
        (λ z. clash (ap (λ (x : Str). same x (drop (i - 1) seen)) (sym (choice_drop k (i - 1) s j ok (omega (arith, m.reached)))) ∙ same_drop (i - 1) (choice_at k s j) seen z) t)
        (λ z. rw z)

  pub match_end : (q i : ℕ) → Matching k s j f to q i → i ≡ 0 → Some q ≡ matched k s (take (length s) (drop to f)) j
  match_end q i m e =
      let l : q ≡ j / size k s = m.left ∙ ap (λ (n : ℕ). j / size k (drop n s)) e in
      let t : same (choice_at k s j) (take (length s) (drop to f)) ≡ true = ap (λ (n : ℕ). same (choice_at k (drop n s) j) (drop n (take (length s) (drop to f)))) (sym e) ∙ m.alike in
      rw t (ap Some l)

-- ---- a choice that starts or ends a part of a frame is one run of it

module _ (k : Classes) (s : Str) (ok : 1 ≤ size k s) (j : ℕ) (f : Str) (i : ℕ) (inside : i ≤ length f) where
  abbrev choice : Str
  choice = choice_at k s j

  long : length choice ≡ length s
  long = choice_long k s j ok

  pub begins_past : length f - i < length s → None ≡ started k s (drop i f) j
  begins_past h = rw (starts_past choice f i inside (omega (arith, long)))

  pub begins_run : length s ≤ length f - i → matched k s (take (length s) (drop i f)) j ≡ started k s (drop i f) j
  begins_run h =
      ap (λ (b : Bool). cond b (Some (j / size k s)) None)
      (sym (starts_run choice f i inside (omega (arith, long)) ∙ ap (λ (n : ℕ). same choice (take n (drop i f))) long))

  pub ends_short : i < length s → false ≡ ends choice (take i f)
  ends_short h = sym (ends_past choice f i inside (omega (arith, long)))

  ends_is : length s ≤ i → ends choice (take i f) ≡ same choice (take (length s) (drop (i - length s) f))
  ends_is h = ends_run choice f i inside (omega (arith, long)) ∙ ap (λ (n : ℕ). same choice (take n (drop (i - n) f))) long

  pub ends_told : length s ≤ i → is_some (matched k s (take (length s) (drop (i - length s) f)) j) ≡ ends choice (take i f)
  ends_told h = cond_some (same choice (take (length s) (drop (i - length s) f))) (j / size k s) ∙ sym (ends_is h)

-- what starting with a choice tells
module _ (k : Classes) (s w : Str) (j : ℕ) where
  pub started_no : started k s w j ≡ None → starts (choice_at k s j) w ≡ false
  started_no e = cond_no (starts (choice_at k s j) w) (j / size k s) e

  pub started_yes : (q : ℕ) → started k s w j ≡ Some q → starts (choice_at k s j) w ≡ true
  started_yes q e = cond_yes (starts (choice_at k s j) w) q (j / size k s) e

  pub started_rest : (q : ℕ) → started k s w j ≡ Some q → j / size k s ≡ q
  started_rest q e = cond_rest (starts (choice_at k s j) w) q (j / size k s) e
