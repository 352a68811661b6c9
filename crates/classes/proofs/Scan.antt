-- A run of symbols as loops go over it: how many choices it has, counted to 513, and what is left of an ordinal.
-- Assumes nothing.
use Prim.Native.Nat.{ℕ, zero, suc, ◌+◌, ◌-◌, ◌*◌, ◌/◌, ◌≤◌, ◌<◌}
use mathlib.Core.Path.{◌≡◌, refl, sym, ap, ◌∙◌}
use mathlib.Core.List.{List, [], ◌∷◌}
use mathlib.Core.Bool.{Bool, true, false, ◌&&◌}
use native.Mathlib.Nat.{div-one, div-div-eq-div-mul, mul_assoc, mul-one, one-mul}
use native.Mathlib.Omega.{arith}
use borrow.Author.Tests.{leb-true, leb-false, le-leb, lt-leb}
use lib.Dec.{leb}
use lib.ListN.{length, get_or, drop, drop_of_length-le}
use lib.Seq.{drop-cons}
use Rattle.numbers.specs.Numbers.{eight}
use Rattle.rules.proofs.Cases.{by_bool}
use Rattle.classes.specs.Classes.{Classes, letters, letter_set}
use Rattle.classes.specs.Counting.{capped}
use Rattle.classes.specs.Expansion.{size}
use Rattle.classes.specs.Masks.{mask_start, letters_in, classes_in, classes_shaped_from, classes_shaped}
use Rattle.classes.proofs.Standing.{class_letters}

-- ---- numbers counted to 513

pub cap_low : (n : ℕ) → n ≤ 512 → n ≡ capped n
cap_low n h = rw (le-leb n 512 h)

pub cap_high : (n : ℕ) → 512 < n → 513 ≡ capped n
cap_high n h = rw (lt-leb n 512 h)

pub cap_few : (n : ℕ) → n ≤ 513 → n ≡ capped n
cap_few n h = by_bool (leb n 512) (λ e. rw e) (λ e. let u = leb-false n 512 e in let z : n ≡ 513 = omega arith in rw e z)

-- 0 where it is told so, and at most 512 where it is
pub cap_leb : (n m : ℕ) → m ≤ 512 → leb (capped n) m ≡ leb n m
cap_leb n m h = by_bool (leb n 512) (λ e. ap (λ (x : ℕ). leb x m) (sym (cap_low n (leb-true n 512 e)))) (λ e. let u = leb-false n 512 e in ap (λ (x : ℕ). leb x m) (sym (cap_high n u)) ∙ (lt-leb 513 m (omega arith) ∙ sym (lt-leb n m (omega arith))))

pub cap_exact : (n : ℕ) → capped n ≤ 512 → capped n ≡ n
cap_exact n h = by_bool (leb n 512) (λ e. sym (cap_low n (leb-true n 512 e))) (λ e. let u = cap_high n (leb-false n 512 e) in absurd (omega arith))

pub cap_zero : (n : ℕ) → capped n ≡ 0 → n ≡ 0
cap_zero n h = sym (cap_exact n (omega arith)) ∙ h

cap_over : (a s : ℕ) → 512 < a → 513 ≤ a * suc s
cap_over a s h = omega arith

pub cap_times : (a s : ℕ) → capped (capped a * s) ≡ capped (a * s)
cap_times a s = by_bool (leb a 512) (λ e. ap (λ (m : ℕ). capped (m * s)) (sym (cap_low a (leb-true a 512 e)))) (λ e. over s (leb-false a 512 e))
  where
    over : (t : ℕ) → 512 < a → capped (capped a * t) ≡ capped (a * t)
    over zero h = let u : capped a * zero ≡ 0 = omega arith in let v : a * zero ≡ 0 = omega arith in ap capped (u ∙ sym v)
    over (suc t) h =
        let e : capped a ≡ 513 = sym (cap_high a h) in
        ap (λ (m : ℕ). capped (m * suc t)) e ∙ (sym (cap_high (513 * suc t) (omega arith)) ∙ cap_high (a * suc t) (cap_over a t h))

-- both contexts, one after the other
pub cap_both : (a b n r : ℕ) → n ≡ capped (1 * a) → r ≡ capped (n * b) → r ≡ capped (a * b)
cap_both a b n r e g =
    g ∙ (ap (λ (m : ℕ). capped (m * b)) (e ∙ ap capped (one-mul a)) ∙ cap_times a b)

-- ---- i symbols are looked at

module _ (k : Classes) (run : List ℕ) where
  pub run_front : (i : ℕ) → i < length run → drop i run ≡ get_or run i 0 ∷ drop (i + 1) run
  run_front i h = drop-cons run i 0 h ∙ (let s : suc i ≡ i + 1 = omega arith in ap (λ (n : ℕ). get_or run i 0 ∷ drop n run) s)

  pub run_none : (i : ℕ) → length run ≤ i → drop i run ≡ []
  run_none i h = drop_of_length-le run {i = i} h

  size_front : (i : ℕ) → i < length run → (m : ℕ) → m ≡ length (letters k (get_or run i 0)) → size k (drop i run) ≡ m * size k (drop (i + 1) run)
  size_front i h m e = ap (size k) (run_front i h) ∙ ap (λ (q : ℕ). q * size k (drop (i + 1) run)) (sym e)

  -- how many choices
  pub count_next : (n i : ℕ) → i < length run → (m r : ℕ) → m ≡ length (letters k (get_or run i 0)) → r ≡ capped (n * m)
      → capped (n * size k (drop i run)) ≡ capped (r * size k (drop (i + 1) run))
  count_next n i h m r e g =
      ap (λ (q : ℕ). capped (n * q)) (size_front i h m e)
      ∙ (ap capped (sym (mul_assoc n m (size k (drop (i + 1) run))))
      ∙ (sym (cap_times (n * m) (size k (drop (i + 1) run)))
      ∙ ap (λ (u : ℕ). capped (u * size k (drop (i + 1) run))) (sym g)))

  pub count_end : (n i : ℕ) → length run ≤ i → n ≤ 513 → capped (n * size k (drop i run)) ≡ n
  count_end n i h g = ap (λ (s : List ℕ). capped (n * size k s)) (run_none i h) ∙ (ap capped (mul-one n) ∙ sym (cap_few n g))

  -- what is left of an ordinal
  pub rest_next : (q i : ℕ) → i < length run → (r : ℕ) → r ≡ q / length (letters k (get_or run i 0)) → q / size k (drop i run) ≡ r / size k (drop (i + 1) run)
  rest_next q i h r e =
      let n = length (letters k (get_or run i 0)) in
      ap (λ (x : ℕ). q / x) (size_front i h n refl)
      ∙ (sym (div-div-eq-div-mul q n (size k (drop (i + 1) run))) ∙ ap (λ (x : ℕ). x / size k (drop (i + 1) run)) (sym e))

  pub rest_end : (q i : ℕ) → length run ≤ i → q / size k (drop i run) ≡ q
  rest_end q i h = ap (λ (s : List ℕ). q / size k s) (run_none i h) ∙ div-one q

-- ---- classes from symbol c on

-- the class of a mask
pub shaped_class : (d : List ℕ) (c : ℕ) → 64 ≤ c → c ≤ 95 → (x : ℕ) → x ≡ eight (mask_start c) d → letter_set (classes_in d c) ≡ letter_set (letters_in x)
shaped_class d c h g x e = ap letter_set (class_letters d c h g ∙ ap letters_in (sym e))

pub shaped_begin : (k : Classes) → classes_shaped k ≡ classes_shaped_from k 64 (96 - 64)
unfolding classes_shaped
shaped_begin k = refl

module _ (k : Classes) (c : ℕ) (h : c ≤ 95) where
  shaped_front : classes_shaped_from k c (96 - c) ≡ (letter_set (k c) && classes_shaped_from k (c + 1) (96 - (c + 1)))
  shaped_front =
      let e : 96 - c ≡ suc (96 - (c + 1)) = omega arith in
      let s : suc c ≡ c + 1 = omega arith in
      ap (classes_shaped_from k c) e ∙ ap (λ (n : ℕ). letter_set (k c) && classes_shaped_from k n (96 - (c + 1))) s

  pub shaped_on : letter_set (k c) ≡ true → classes_shaped_from k c (96 - c) ≡ classes_shaped_from k (c + 1) (96 - (c + 1))
  shaped_on e = shaped_front ∙ ap (λ (b : Bool). b && classes_shaped_from k (c + 1) (96 - (c + 1))) e

  pub shaped_off : letter_set (k c) ≡ false → classes_shaped_from k c (96 - c) ≡ false
  shaped_off e = shaped_front ∙ ap (λ (b : Bool). b && classes_shaped_from k (c + 1) (96 - (c + 1))) e

pub shaped_end : (k : Classes) (c : ℕ) → 95 < c → classes_shaped_from k c (96 - c) ≡ true
shaped_end k c h = let e : 96 - c ≡ 0 = omega arith in ap (classes_shaped_from k c) e
