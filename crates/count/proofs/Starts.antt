-- Strings that start others: which of some strings is the first that one starts, and what one string more changes.
-- Assumes nothing.
use mathlib.Core.Path.{◌≡◌, refl, sym, ap, ◌∙◌}
use Prim.Native.Nat.{ℕ, zero, suc, ◌≤◌, ◌<◌, zero-le, suc-le-suc}
use native.Mathlib.Omega.{arith}
use mathlib.Core.Bool.{true, false, ◌||◌, or-true, or-false}
use mathlib.Core.List.{List, [], ◌∷◌, ◌++◌}
use lib.Dec.{eqb, eqb→eq}
use lib.ListN.{length, get_or, take}
use borrow.Author.Tests.{eq-eqb}
use Rattle.rules.proofs.Cases.{by_bool}
use Rattle.fitting.specs.Fitting.{Str, starts}
use Rattle.tables.specs.States.{states, numbered, starts_any}
use Rattle.tables.proofs.Truth.{clash, true_eq, and_left, and_right, or_left_false, or_right_false}
use Rattle.tables.proofs.Numbering.{numbered_is}
use Rattle.side.proofs.Prefixes.{starts_take}
use Rattle.count.specs.Tree.{nodes, has_symbol, first_with}

-- ---- two strings

head_is : (x y : ℕ) (s w : Str) → starts (x ∷ s) (y ∷ w) ≡ true → x ≡ y
head_is x y s w e = eqb→eq x y (true_eq (eqb x y) (and_left (eqb x y) (starts s w) e))

rest_is : (x y : ℕ) (s w : Str) → starts (x ∷ s) (y ∷ w) ≡ true → starts s w ≡ true
rest_is x y s w e = and_right (eqb x y) (starts s w) e

pub starts_trans : (s t w : Str) → starts s t ≡ true → starts t w ≡ true → starts s w ≡ true
starts_trans [] t w a b = refl
starts_trans (x ∷ s) [] w a b = clash a refl
starts_trans (x ∷ s) (y ∷ t) [] a b = clash b refl
starts_trans (x ∷ s) (y ∷ t) (z ∷ w) a b =
    rw (eq-eqb x z (head_is x y s t a ∙ head_is y z t w b)) (starts_trans s t w (rest_is x y s t a) (rest_is y z t w b))

-- of two prefixes the shorter one starts the longer
pub nested : (s t w : Str) → starts s w ≡ true → starts t w ≡ true → length s ≤ length t → starts s t ≡ true
nested [] t w a b h = refl
nested (x ∷ s) [] w a b h = absurd (omega arith)
nested (x ∷ s) (y ∷ t) [] a b h = clash a refl
nested (x ∷ s) (y ∷ t) (z ∷ w) a b h =
    rw (eq-eqb x y (head_is x z s w a ∙ sym (head_is y z t w b))) (nested s t w (rest_is x z s w a) (rest_is y z t w b) (omega arith))

-- prefixes of one length are equal
pub same_prefix : (s t w : Str) → starts s w ≡ true → starts t w ≡ true → length s ≡ length t → s ≡ t
same_prefix s t w a b e = sym (starts_take s w a).0 ∙ ap (λ (k : ℕ). take k w) e ∙ (starts_take t w b).0

pub starts_snoc : (s : Str) (c : ℕ) → starts s (s ++ (c ∷ [])) ≡ true
starts_snoc [] c = refl
starts_snoc (x ∷ s) c = rw (eq-eqb x x refl) (starts_snoc s c)

-- one symbol more
pub starts_more : (s : Str) (c : ℕ) (w : Str) → starts s w ≡ true → starts (s ++ (c ∷ [])) w ≡ has_symbol w (length s) c
starts_more [] c w a = refl
starts_more (x ∷ s) c [] a = clash a refl
starts_more (x ∷ s) c (y ∷ w) a = rw (eq-eqb x y (head_is x y s w a)) (starts_more s c w (rest_is x y s w a))

-- ---- a string and some others

pub any_snoc : (s : Str) (l : List Str) (p : Str) → starts_any s (l ++ (p ∷ [])) ≡ (starts_any s l || starts s p)
any_snoc s [] p = or-false (starts s p)
any_snoc s (w ∷ l) p = by_bool (starts s w) (λ a. rw a) (λ a. rw a (any_snoc s l p))

pub any_trans : (s t : Str) (l : List Str) → starts s t ≡ true → starts_any t l ≡ true → starts_any s l ≡ true
any_trans s t [] a b = b
any_trans s t (w ∷ l) a b =
    by_bool (starts t w)
    (λ e. rw (starts_trans s t w a e))
    (λ e. rw (any_trans s t l a (rw e at b)) (or-true (starts s w)))

pub any_at : (s : Str) (l : List Str) (k : ℕ) → k < length l → starts_any s l ≡ false → starts s (get_or l k []) ≡ false
any_at s [] k h a = absurd (omega arith)
any_at s (w ∷ l) zero h a = or_left_false (starts s w) (starts_any s l) a
any_at s (w ∷ l) (suc k) h a = any_at s l k (omega arith) (or_right_false (starts s w) (starts_any s l) a)

module _ (s : Str) where
  pub first_lt : (l : List Str) → starts_any s l ≡ true → first_with s l < length l
  first_lt [] a = clash a refl
  first_lt (w ∷ l) a = by_bool (starts s w) (λ e. rw e (suc-le-suc zero-le)) (λ e. rw e (suc-le-suc (first_lt l (rw e at a))))

  pub first_is : (l : List Str) → starts_any s l ≡ true → starts s (get_or l (first_with s l) []) ≡ true
  first_is [] a = clash a refl
  first_is (w ∷ l) a = by_bool (starts s w) (λ e. rw e e) (λ e. rw e (first_is l (rw e at a)))

  pub first_old : (l : List Str) (p : Str) → starts_any s l ≡ true → first_with s (l ++ (p ∷ [])) ≡ first_with s l
  first_old [] p a = clash a refl
  first_old (w ∷ l) p a = by_bool (starts s w) (λ e. rw e) (λ e. rw e (ap suc (first_old l p (rw e at a))))

  pub first_new : (l : List Str) (p : Str) → starts_any s l ≡ false → starts s p ≡ true → first_with s (l ++ (p ∷ [])) ≡ length l
  first_new [] p a b = rw b
  first_new (w ∷ l) p a b = by_bool (starts s w) (λ e. clash refl (rw e at a)) (λ e. rw e (ap suc (first_new l p (rw e at a) b)))

-- a string is numbered where it starts a node
pub any_node : (pats : List Str) (s : Str) → numbered (states pats) s ≡ starts_any s (nodes pats)
any_node pats [] = numbered_is pats []
any_node pats (x ∷ s) = numbered_is pats (x ∷ s)
