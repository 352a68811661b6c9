-- The letters of classes that are strictly ascending: each once, none of them # or 3F; so a choice has letters and boundaries only.
-- Assumes nothing.
use Prim.Native.Nat.{ℕ, zero, suc, ◌+◌, ◌/◌, ◌%◌, ◌≤◌, ◌<◌}
use mathlib.Core.Path.{◌≡◌, refl, sym, ap, ◌∙◌, subst}
use mathlib.Core.List.{List, [], ◌∷◌}
use mathlib.Core.Bool.{Bool, true, false, cond, or-false}
use native.Mathlib.Omega.{arith}
use borrow.Author.Tests.{leb-true, ltb-true, ltb-false, lt-ltb, le-ltb, eqb-true, ne_eqb}
use lib.Dec.{eqb, leb, ltb}
use lib.ListN.{length, get_or, drop, get_or-eq_default}
use Rattle.rules.proofs.Cases.{by_bool, and_l, and_r}
use Rattle.classes.specs.Classes.{Classes, is_in, ascending, letters, stands, Proper}
use Rattle.classes.specs.Expansion.{size}
use Rattle.classes.specs.Ordinal.{choice_at}
use Rattle.classes.proofs.Grid.{count}
use Rattle.classes.proofs.Ordinal.{choice_symbol, choice_long}

-- the rest of ascending letters
tail_ascends : (b x : ℕ) (l : List ℕ) → ascending b (x ∷ l) ≡ true → ascending (suc x) l ≡ true
tail_ascends b x l e = and_r (leb x 62) _ (and_r (leb b x) _ e)

pub none_below : (y b : ℕ) (l : List ℕ) → ascending b l ≡ true → y < b → is_in y l ≡ false
none_below y b [] e h = refl
none_below y b (x ∷ l) e h =
    let u : b ≤ x = leb-true b x (and_l (leb b x) _ e) in
    rw (ne_eqb x y (λ q. omega arith)) (none_below y (suc x) l (tail_ascends b x l e) (omega arith))

count_below : (y b : ℕ) (l : List ℕ) → ascending b l ≡ true → y < b → count (λ a. eqb a y) l ≡ 0
count_below y b [] e h = refl
count_below y b (x ∷ l) e h =
    let u : b ≤ x = leb-true b x (and_l (leb b x) _ e) in
    let i = count_below y (suc x) l (tail_ascends b x l e) (omega arith) in
    rw (ne_eqb x y (λ q. omega arith)) (omega arith)

-- a letter stands at most once
pub once : (y b : ℕ) (l : List ℕ) → ascending b l ≡ true → count (λ a. eqb a y) l ≤ 1
once y b [] e = omega arith
once y b (x ∷ l) e =
    by_bool (eqb x y)
    (λ q. rw q (let z = count_below y (suc x) l (tail_ascends b x l e) (same_low x y q) in omega arith))
    (λ q. rw q (let z = once y (suc x) l (tail_ascends b x l e) in omega arith))
  where
    same_low : (x y : ℕ) → eqb x y ≡ true → y < suc x
    same_low x y q = let z = eqb-true x y q in omega arith

letter_low : (b : ℕ) (l : List ℕ) (d : ℕ) → ascending b l ≡ true → get_or l d 0 < 63
letter_low b [] d e = omega arith
letter_low b (x ∷ l) zero e = let u = leb-true x 62 (and_l (leb x 62) _ (and_r (leb b x) _ e)) in omega arith
letter_low b (x ∷ l) (suc d) e = letter_low (suc x) l d (tail_ascends b x l e)

-- a letter or # stands for itself only
pub stands_letter : (k : Classes) (c y : ℕ) → c < 64 → stands k c y ≡ eqb c y
stands_letter k c y h = ap (λ (b : Bool). is_in y (cond b (c ∷ []) (k c))) (lt-ltb c 64 h) ∙ or-false (eqb c y)

module _ (k : Classes) (ok : Proper k) where
  -- # is in no class
  pub stands_boundary : (c : ℕ) → 64 ≤ c → stands k c 0 ≡ false
  stands_boundary c h = ap (λ (b : Bool). is_in 0 (cond b (c ∷ []) (k c))) (le-ltb c 64 h) ∙ none_below 0 1 (k c) (ok c) (omega arith)

  -- a symbol stands for a letter once
  pub letters_once : (c y : ℕ) → count (λ a. eqb a y) (letters k c) ≤ 1
  letters_once c y = by_bool (ltb c 64) (λ e. rw e (one (eqb c y))) (λ e. rw e (once y 1 (k c) (ok c)))
    where
      one : (b : Bool) → cond b 1 0 + 0 ≤ 1
      one true = omega arith
      one false = omega arith

  pub letters_low : (c d : ℕ) → get_or (letters k c) d 0 < 64
  letters_low c d =
      by_bool (ltb c 64)
      (λ e. rw e (alone d (ltb-true c 64 e)))
      (λ e. rw e (let u = letter_low 1 (k c) d (ok c) in omega arith))
    where
      alone : (i : ℕ) → c < 64 → get_or (c ∷ []) i 0 < 64
      alone zero h = h
      alone (suc i) h = omega arith

  -- no symbol of a choice is a class
  pub choice_low : (s : List ℕ) (j : ℕ) → 0 < size k s → (i : ℕ) → get_or (choice_at k s j) i 0 < 64
  choice_low s j h i =
      by_bool (ltb i (length s))
      (λ e. subst (λ (x : ℕ). x < 64) (sym (choice_symbol k s j i h (ltb-true i (length s) e))) (letters_low (get_or s i 0) (j / size k (drop (suc i) s) % length (letters k (get_or s i 0)))))
      (λ e. subst (λ (x : ℕ). x < 64) (sym (get_or-eq_default (choice_at k s j) 0 {n = i} (let u = ltb-false i (length s) e in omega (arith, choice_long k s j h)))) (omega arith))
