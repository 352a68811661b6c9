-- The names lent to one call, one after another: whether one is left, and the names after it.
-- Assumes nothing.
use Prim.Native.Nat.{ℕ, zero, suc, ◌+◌, ◌-◌, ◌≤◌, ◌<◌}
use mathlib.Core.Path.{◌≡◌, refl, sym, ap, ap₂, ◌∙◌}
use mathlib.Core.Bool.{Bool, true, false, cond, ◌&&◌}
use mathlib.Core.List.{List, [], ◌∷◌}
use native.Mathlib.Omega.{arith}
use lib.Dec.{leb, ltb}
use lib.ListN.{length, get_or, take, drop, length-drop, drop_of_length-le}
use lib.Seq.{drop-cons, drop-drop}
use borrow.Author.Tests.{leb-true, leb-false, le-leb, lt-leb, ltb-true, ltb-false, lt-ltb, le-ltb}
use Rattle.rules.proofs.Cases.{by_bool, and_l, and_r}
use Rattle.many_names.specs.Names.{names_in, name_at, has_next}

module _ (names : List ℕ) (at count k : ℕ) where
  module _ (h : has_next names at count k ≡ true) where
    pub next-count : count < k
    next-count = ltb-true count k (and_l (ltb count k) _ h)

    pub next-whole : at + 1 + get_or names at 0 ≤ length names
    next-whole = leb-true _ (length names) (and_r (ltb count k) _ h)

    -- the next name, and the names after it
    pub names-next : names_in (k - count) (drop at names) ≡ name_at names at ∷ names_in (k - (count + 1)) (drop (at + 1 + get_or names at 0) names)
    names-next =
        let n = get_or names at 0 in
        let s = drop (at + 1) names in
        let fuel : k - count ≡ suc (k - (count + 1)) = omega (arith, next-count) in
        let one : suc at ≡ at + 1 = omega arith in
        let inside : at < length names = omega (arith, next-whole) in
        let tail : drop at names ≡ n ∷ s = drop-cons names at 0 inside ∙ ap (λ (m : ℕ). n ∷ drop m names) one in
        let room : n ≤ length s = omega (arith, length-drop (at + 1) names, next-whole) in
        ap₂ names_in fuel tail
        ∙ (ap (λ (t : Bool). cond t (take n s ∷ names_in (k - (count + 1)) (drop n s)) []) (le-leb n (length s) room)
        ∙ ap (λ (l : List ℕ). take n s ∷ names_in (k - (count + 1)) l) (drop-drop n (at + 1) names))

  names_nil : (j : ℕ) → names_in j [] ≡ []
  names_nil zero = refl
  names_nil (suc j) = refl

  names_broken : (j n : ℕ) (s : List ℕ) → leb n (length s) ≡ false → names_in j (n ∷ s) ≡ []
  names_broken zero n s h = refl
  names_broken (suc j) n s h = ap (λ (t : Bool). cond t (take n s ∷ names_in j (drop n s)) []) h

  pub names-end : has_next names at count k ≡ false → names_in (k - count) (drop at names) ≡ []
  names-end h =
      by_bool (ltb count k)
      (λ c. by_bool (leb (at + 1) (length names))
      (λ i.
      let n = get_or names at 0 in
      let s = drop (at + 1) names in
      let inside : at < length names = omega (arith, leb-true (at + 1) (length names) i) in
      let one : suc at ≡ at + 1 = omega arith in
      let no : leb (at + 1 + n) (length names) ≡ false = ap (λ (t : Bool). t && leb (at + 1 + n) (length names)) (sym c) ∙ h in
      let over-end : length names < at + 1 + n = leb-false (at + 1 + n) (length names) no in
      let tail : drop at names ≡ n ∷ s = drop-cons names at 0 inside ∙ ap (λ (m : ℕ). n ∷ drop m names) one in
      ap (names_in (k - count)) tail ∙ names_broken (k - count) n s (lt-leb n (length s) (omega (arith, length-drop (at + 1) names, over-end, inside))))
      (λ i.
      let none : drop at names ≡ [] = drop_of_length-le names {i = at} (omega (arith, leb-false (at + 1) (length names) i)) in
      ap (names_in (k - count)) none ∙ names_nil (k - count)))
      (λ c.
      let fuel : k - count ≡ 0 = omega (arith, ltb-false count k c) in
      ap (λ (j : ℕ). names_in j (drop at names)) fuel)

has_full : (t : Bool) → false ≡ (t && false)
has_full true = refl
has_full false = refl

module _ (names : List ℕ) (at count k : ℕ) where
  pub has_none : k ≤ count → false ≡ has_next names at count k
  has_none h = ap (λ (t : Bool). t && leb (at + 1 + get_or names at 0) (length names)) (sym (le-ltb count k h))

  pub has_broken : length names < at + 1 + get_or names at 0 → false ≡ has_next names at count k
  has_broken h = has_full (ltb count k) ∙ ap (λ (t : Bool). ltb count k && t) (sym (lt-leb (at + 1 + get_or names at 0) (length names) h))

  pub has_one : count < k → at + 1 + get_or names at 0 ≤ length names → true ≡ has_next names at count k
  has_one h i = ap₂ (λ (s t : Bool). s && t) (sym (lt-ltb count k h)) (sym (le-leb (at + 1 + get_or names at 0) (length names) i))
