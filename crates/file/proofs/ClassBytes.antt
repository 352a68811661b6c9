-- The bytes of classes of which one is set: those of the others stay.
-- Assumes nothing.
use Prim.Native.Nat.{ℕ, zero, suc, ◌+◌, ◌-◌, ◌*◌, ◌<◌}
use mathlib.Core.Path.{◌≡◌, refl, sym, ap, ap₂, ◌∙◌}
use mathlib.Core.List.{List, ◌++◌, append_assoc}
use mathlib.Core.Bool.{true}
use native.Mathlib.Omega.{arith}
use borrow.Author.Tests.{eq-eqb, ne_eqb}
use lib.ListN.{length, take, drop}
use lib.Seq.{take-append-add, drop-append-add}
use Rattle.numbers.specs.Numbers.{bytes8}
use Rattle.rules.specs.Limits.{first_class, class_count}
use Rattle.classes.specs.Classes.{Classes, is_class}
use Rattle.classes.specs.Masks.{mask_size, mask_of, masks_from, masks_of, with_mask}
use Rattle.classes.specs.Setting.{with_class}
use Rattle.file_format.proofs.ClassFrames.{class_range}

module _ (k : Classes) (c : ℕ) (l : List ℕ) where
  -- the classes after it
  after : (n a : ℕ) → c < a → masks_from (with_class k c l) a n ≡ masks_from k a n
  after zero a h = refl
  after (suc n) a h = rw (ne_eqb a c (λ q. omega arith)) (ap (λ (w : List ℕ). bytes8 (mask_of (k a)) ++ w) (after n (suc a) (omega arith)))

  abbrev with_at : ℕ → List ℕ → List ℕ
  with_at m masks = take m masks ++ (bytes8 (mask_of l) ++ drop (m + mask_size) masks)

  -- behind the bytes of a class
  past : (b t : List ℕ) (m n : ℕ) → n ≡ length b + m → with_at n (b ++ t) ≡ b ++ with_at m t
  past b t m n e =
      let f : n + mask_size ≡ length b + (m + mask_size) = omega arith in
      ap₂ (λ (u v : List ℕ). u ++ (bytes8 (mask_of l) ++ v)) (ap (λ (i : ℕ). take i (b ++ t)) e ∙ take-append-add b t m) (ap (λ (i : ℕ). drop i (b ++ t)) f ∙ drop-append-add b t (m + mask_size))
      ∙ append_assoc b (take m t) (bytes8 (mask_of l) ++ drop (m + mask_size) t)

  -- those before it, and it
  with_from : (n a i : ℕ) → c ≡ a + i → i < n → masks_from (with_class k c l) a n ≡ with_at (mask_size * i) (masks_from k a n)
  with_from zero a i e h = absurd (omega arith)
  with_from (suc n) a zero e h =
      let q : a ≡ c = omega arith in
      rw (eq-eqb a c q) (ap (λ (w : List ℕ). bytes8 (mask_of l) ++ w) (after n (suc a) (omega arith)))
  with_from (suc n) a (suc i) e h =
      rw (ne_eqb a c (λ q. omega arith))
      (ap (λ (w : List ℕ). bytes8 (mask_of (k a)) ++ w) (with_from n (suc a) i (omega arith) (omega arith))
      ∙ sym (past (bytes8 (mask_of (k a))) (masks_from k (suc a) n) (mask_size * i) (mask_size * suc i) (omega arith)))

  pub masks_with : is_class c ≡ true → masks_of (with_class k c l) ≡ with_mask c l (masks_of k)
  unfolding masks_of with_mask
  masks_with h = let r = class_range c h in with_from class_count first_class (c - first_class) (omega (arith, r.0)) (omega (arith, r.1))
