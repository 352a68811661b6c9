-- Classes in bytes: what is stored is read back, a stored mask sets its class and keeps the others.
--     eight-bytes      eight bytes read give the number that they are the writing of
--     with-mask        the bytes with one class set hold the classes with it set
--     masks-classes    the writing of classes holds them
--     classes-same     the first 256 bytes say the classes
-- Assumes nothing.
use Prim.Native.Nat.{ℕ, zero, suc, ◌+◌, ◌-◌, ◌*◌, ◌/◌, ◌%◌, ◌^◌, ◌≤◌, ◌<◌}
use mathlib.Core.Path.{◌≡◌, refl, sym, ap, ap₂, ◌∙◌, subst, fun_ext}
use mathlib.Core.List.{List, [], ◌++◌, append_assoc}
use mathlib.Core.Bool.{Bool, true, false, cond}
use native.Mathlib.Nat.{mod-eq_of_lt}
use native.Mathlib.Omega.{arith}
use borrow.Author.Tests.{leb-true, ltb-true, ltb-false, eqb-true, eqb-false}
use lib.Dec.{eqb, leb, ltb}
use lib.ListN.{length, get_or, take, drop, replicate, length-append, length-drop, get_or-append}
use lib.Pow.{mod-pow-add}
use lib.Seq.{length-take-le, get_or-take, get_or-drop, get_or-append-add}
use Rattle.numbers.specs.Numbers.{eight, bytes8}
use Rattle.rules.proofs.Cases.{by_bool, and_l, and_r, and_i}
use Rattle.classes.specs.Classes.{Classes, no_classes, is_class, ascending, letter_set, Proper, OnlyClasses}
use Rattle.classes.specs.Masks.{masks_size, mask_start, letters_in, mask_of, mask_with, classes_in, classes_shaped_from, classes_shaped, masks_from, masks_of, with_mask}
use Rattle.classes.specs.Setting.{with_class}
use Rattle.classes.proofs.Standing.{class_range, outside_none}
use Rattle.classes.proofs.Shapes.{letters_mask, mask_word}

-- ---- eight bytes

two_is : (x : ℕ) → 256 * (x / 256 % 256) + x % 256 ≡ x % 65536
two_is x = let e : x % 65536 ≡ x / 256 % 256 * 256 + x % 256 = mod-pow-add x 8 8 in omega arith

four_is : (x : ℕ) → 65536 * (x / 65536 % 65536) + x % 65536 ≡ x % 4294967296
four_is x = let e : x % 4294967296 ≡ x / 65536 % 65536 * 65536 + x % 65536 = mod-pow-add x 16 16 in omega arith

eight_is : (x : ℕ) → 4294967296 * (x / 4294967296 % 4294967296) + x % 4294967296 ≡ x % 2 ^ 64
eight_is x = let e : x % 2 ^ 64 ≡ x / 4294967296 % 4294967296 * 4294967296 + x % 4294967296 = mod-pow-add x 32 32 in omega arith

-- the four bytes of x
four_bytes : (x : ℕ) → 256 * (256 * (256 * (x / 65536 / 256 % 256) + x / 65536 % 256) + x / 256 % 256) + x % 256 ≡ x % 4294967296
four_bytes x =
    let a = two_is (x / 65536) in
    let b = two_is x in
    let c = four_is x in
    let d : 256 * (256 * (256 * (x / 65536 / 256 % 256) + x / 65536 % 256) + x / 256 % 256) + x % 256
    ≡ 65536 * (256 * (x / 65536 / 256 % 256) + x / 65536 % 256) + (256 * (x / 256 % 256) + x % 256) = omega arith in
    d ∙ (ap₂ (λ (u v : ℕ). 65536 * u + v) a b ∙ c)

-- the number that stands after a
pub eight_after : (a t : List ℕ) (at : ℕ) → eight (length a + at) (a ++ t) ≡ eight at t
eight_after a t at =
    let g : (i n : ℕ) → i ≡ length a + n → get_or (a ++ t) i 0 ≡ get_or t n 0 = λ i n e. ap (λ (m : ℕ). get_or (a ++ t) m 0) e ∙ get_or-append-add a t n 0 in
    let b0 = g (length a + at) at refl in
    let b1 = g (length a + at + 1) (at + 1) (omega arith) in
    let b2 = g (length a + at + 2) (at + 2) (omega arith) in
    let b3 = g (length a + at + 3) (at + 3) (omega arith) in
    let b4 = g (length a + at + 4) (at + 4) (omega arith) in
    let b5 = g (length a + at + 4 + 1) (at + 4 + 1) (omega arith) in
    let b6 = g (length a + at + 4 + 2) (at + 4 + 2) (omega arith) in
    let b7 = g (length a + at + 4 + 3) (at + 4 + 3) (omega arith) in
    omega arith

pub eight_first : (m : ℕ) (t : List ℕ) → m < 2 ^ 64 → eight 0 (bytes8 m ++ t) ≡ m
eight_first m t h =
    ap₂ (λ (u v : ℕ). 4294967296 * u + v) (four_bytes (m / 4294967296)) (four_bytes m) ∙ (eight_is m ∙ mod-eq_of_lt h)

pub eight_bytes : (a : List ℕ) (m : ℕ) (t : List ℕ) (at : ℕ) → length a ≡ at → m < 2 ^ 64 → eight at (a ++ (bytes8 m ++ t)) ≡ m
eight_bytes a m t at e h =
    let z : at ≡ length a + 0 = omega arith in
    ap (λ (n : ℕ). eight n (a ++ (bytes8 m ++ t))) z ∙ (eight_after a (bytes8 m ++ t) 0 ∙ eight_first m t h)

-- equal bytes give equal numbers
pub eight_same : (d e : List ℕ) (at : ℕ) → ((i : ℕ) → at ≤ i → i < at + 8 → get_or d i 0 ≡ get_or e i 0) → eight at d ≡ eight at e
eight_same d e at h =
    let a = h at (omega arith) (omega arith) in
    let b = h (at + 1) (omega arith) (omega arith) in
    let c = h (at + 2) (omega arith) (omega arith) in
    let g = h (at + 3) (omega arith) (omega arith) in
    let i = h (at + 4) (omega arith) (omega arith) in
    let j = h (at + 4 + 1) (omega arith) (omega arith) in
    let m = h (at + 4 + 2) (omega arith) (omega arith) in
    let n = h (at + 4 + 3) (omega arith) (omega arith) in
    omega arith

-- ---- a mask is stored

pub class_low : (c : ℕ) → is_class c ≡ true → 64 ≤ c
class_low c e = leb-true 64 c (and_l (leb 64 c) _ e)

pub class_high : (c : ℕ) → is_class c ≡ true → c < 96
class_high c e = ltb-true c 96 (and_r (leb 64 c) _ e)

-- eight bytes s in d, from `at` on
module _ (d s : List ℕ) (at : ℕ) (room : at + 8 ≤ length d) (full : length s ≡ 8) where
  abbrev put : List ℕ
  put = take at d ++ (s ++ drop (at + 8) d)

  head_long : length (take at d) ≡ at
  head_long = length-take-le at d (omega arith)

  both_long : length (take at d ++ s) ≡ at + 8
  both_long = omega (arith, length-append (take at d) s, head_long)

  put_low : (i : ℕ) → i < at → get_or put i 0 ≡ get_or d i 0
  put_low i h = get_or-append (take at d) (s ++ drop (at + 8) d) 0 i (omega (arith, head_long)) ∙ get_or-take at d i 0 h

  put_high : (i : ℕ) → at + 8 ≤ i → get_or put i 0 ≡ get_or d i 0
  put_high i h =
      let e : i ≡ length (take at d ++ s) + (i - (at + 8)) = omega (arith, both_long) in
      let g : at + 8 + (i - (at + 8)) ≡ i = omega arith in
      ap (λ (l : List ℕ). get_or l i 0) (sym (append_assoc (take at d) s (drop (at + 8) d)))
      ∙ (ap (λ (m : ℕ). get_or ((take at d ++ s) ++ drop (at + 8) d) m 0) e
      ∙ (get_or-append-add (take at d ++ s) (drop (at + 8) d) (i - (at + 8)) 0
      ∙ (get_or-drop (at + 8) d (i - (at + 8)) 0 ∙ ap (λ (m : ℕ). get_or d m 0) g)))

module _ (d : List ℕ) (room : masks_size ≤ length d) (c : ℕ) (class : is_class c ≡ true) (x : ℕ) (word : x < 2 ^ 64) where
  abbrev pub stored : List ℕ
  stored = take (mask_start c) d ++ (bytes8 x ++ drop (mask_start c + 8) d)

  start_room : 8 * (c - 64) + 8 ≤ length d
  start_room = let l = class_low c class in let h = class_high c class in omega arith

  mask_here : eight (mask_start c) stored ≡ x
  mask_here = eight_bytes (take (mask_start c) d) x (drop (mask_start c + 8) d) (mask_start c) (head_long d (bytes8 x) (mask_start c) start_room refl) word

  above : (y i : ℕ) → c ≤ y → (y ≡ c → ⊥) → 64 ≤ y → 64 ≤ c → 8 * (y - 64) ≤ i → 8 * (c - 64) + 8 ≤ i
  above y i u n a l p = by_bool (ltb c y) (λ e. let v = ltb-true c y e in omega arith) (λ e. let v = ltb-false c y e in absurd (n (omega arith)))

  other_mask : (y : ℕ) → is_class y ≡ true → (y ≡ c → ⊥) → eight (mask_start y) stored ≡ eight (mask_start y) d
  other_mask y t n =
      let a = class_low y t in
      let l = class_low c class in
      eight_same stored d (mask_start y)
      (λ i p q. by_bool (ltb y c)
      (λ e. let u = ltb-true y c e in put_low d (bytes8 x) (mask_start c) start_room refl i (omega arith))
      (λ e. let u = ltb-false y c e in put_high d (bytes8 x) (mask_start c) start_room refl i (above y i u n a l p)))

  here : (y : ℕ) → y ≡ c → eqb y c ≡ true → classes_in stored y ≡ with_class (classes_in d) c (letters_in x) y
  unfolding classes_in
  here y z e =
      let s : classes_in stored c ≡ letters_in x = rw class (ap letters_in mask_here) in
      ap (classes_in stored) z ∙ (s ∙ sym (ap (λ (b : Bool). cond b (letters_in x) (classes_in d y)) e))

  there : (y : ℕ) → (y ≡ c → ⊥) → eqb y c ≡ false → classes_in stored y ≡ with_class (classes_in d) c (letters_in x) y
  unfolding classes_in
  there y n e = by_bool (is_class y) (λ t. rw (e, t) (ap letters_in (other_mask y t n))) (λ t. rw (e, t))

  -- this class is set, the others are as they were
  pub stored_classes : classes_in stored ≡ with_class (classes_in d) c (letters_in x)
  stored_classes = fun_ext (λ y. by_bool (eqb y c) (λ e. here y (eqb-true y c e) e) (λ e. there y (eqb-false y c e) e))

-- the bytes with a class set hold the classes with it set
pub with-mask : (masks : List ℕ) → masks_size ≤ length masks → (c : ℕ) → is_class c ≡ true → (l : List ℕ) → letter_set l ≡ true
    → classes_in (with_mask c l masks) ≡ with_class (classes_in masks) c l
unfolding with_mask
with-mask masks room c e l s =
    stored_classes masks room c e (mask_of l) (mask_word l s) ∙ ap (with_class (classes_in masks) c) (letters_mask l s)

pub with_mask_long : (masks : List ℕ) → masks_size ≤ length masks → (c : ℕ) → is_class c ≡ true → (l : List ℕ) → length (with_mask c l masks) ≡ length masks
unfolding with_mask
with_mask_long masks room c e l =
    let a = class_low c e in
    let b = class_high c e in
    omega (arith, length-append (take (mask_start c) masks) (bytes8 (mask_of l) ++ drop (mask_start c + 8) masks), length-take-le (mask_start c) masks (omega arith), length-append (bytes8 (mask_of l)) (drop (mask_start c + 8) masks), length-drop (mask_start c + 8) masks)

-- ---- all classes

pub length_masks_from : (k : Classes) (c n : ℕ) → length (masks_from k c n) ≡ 8 * n
length_masks_from k c zero = refl
length_masks_from k c (suc n) = let h = length_masks_from k (suc c) n in omega arith

pub length_masks : (k : Classes) → length (masks_of k) ≡ masks_size
unfolding masks_of
length_masks k = length_masks_from k 64 32

shaped_at : (k : Classes) (c n i : ℕ) → i < n → classes_shaped_from k c n ≡ true → letter_set (k (c + i)) ≡ true
shaped_at k c zero i h e = absurd (omega arith)
shaped_at k c (suc n) zero h e = let z : c ≡ c + zero = omega arith in subst (λ (m : ℕ). letter_set (k m) ≡ true) z (and_l (letter_set (k c)) _ e)
shaped_at k c (suc n) (suc i) h e =
    let z : suc c + i ≡ c + suc i = omega arith in
    subst (λ (m : ℕ). letter_set (k m) ≡ true) z (shaped_at k (suc c) n i (omega arith) (and_r (letter_set (k c)) _ e))

-- each class of a ruleset has letters of a class, or none
pub class_set : (k : Classes) → classes_shaped k ≡ true → (c : ℕ) → is_class c ≡ true → letter_set (k c) ≡ true
unfolding classes_shaped
class_set k e c t =
    let a = class_low c t in
    let b = class_high c t in
    let z : 64 + (c - 64) ≡ c = omega arith in
    subst (λ (m : ℕ). letter_set (k m) ≡ true) z (shaped_at k 64 32 (c - 64) (omega arith) e)

all_shaped : (k : Classes) (c n : ℕ) → ((i : ℕ) → i < n → letter_set (k (c + i)) ≡ true) → classes_shaped_from k c n ≡ true
all_shaped k c zero h = refl
all_shaped k c (suc n) h =
    let z : c + 0 ≡ c = omega arith in
    and_i (subst (λ (m : ℕ). letter_set (k m) ≡ true) z (h 0 (omega arith)))
    (all_shaped k (suc c) n (λ i g. let y : c + suc i ≡ suc c + i = omega arith in subst (λ (m : ℕ). letter_set (k m) ≡ true) y (h (suc i) (omega arith))))

-- and the other way round
pub sets_shaped : (k : Classes) → ((c : ℕ) → is_class c ≡ true → letter_set (k c) ≡ true) → classes_shaped k ≡ true
unfolding classes_shaped
sets_shaped k h = all_shaped k 64 32 (λ i g. h (64 + i) (class_range (64 + i) (omega arith) (omega arith)))

pub outside_in : (d : List ℕ) → OnlyClasses (classes_in d)
outside_in d c e = outside_none d c e

pub proper : (k : Classes) → classes_shaped k ≡ true → OnlyClasses k → Proper k
proper k e o c =
    by_bool (is_class c)
    (λ t. and_r (leb (length (k c)) 32) _ (class_set k e c t))
    (λ t. ap (ascending 1) (o c t))

-- a class set anew
module _ (k : Classes) (c : ℕ) (l : List ℕ) where
  pub with_outside : is_class c ≡ true → OnlyClasses k → OnlyClasses (with_class k c l)
  with_outside t o y u = by_bool (eqb y c) (λ e. absurd (never (ap is_class (eqb-true y c e)))) (λ e. rw e (o y u))
    where
      never : is_class y ≡ is_class c → ⊥
      never e = let z : true ≡ false = sym t ∙ (sym e ∙ u) in let y : ◌≡◌ {A = ℕ} 0 1 = cc in omega arith

  pub with_shaped : letter_set l ≡ true → classes_shaped k ≡ true → classes_shaped (with_class k c l) ≡ true
  with_shaped s e = sets_shaped (with_class k c l) (λ y t. by_bool (eqb y c) (λ u. rw u s) (λ u. rw u (class_set k e y t)))

masks_at : (k : Classes) (c n i : ℕ) (rest : List ℕ) → i < n → mask_of (k (c + i)) < 2 ^ 64 → eight (8 * i) (masks_from k c n ++ rest) ≡ mask_of (k (c + i))
masks_at k c zero i rest h g = absurd (omega arith)
masks_at k c (suc n) zero rest h g =
    let z : c + zero ≡ c = omega arith in
    eight_first (mask_of (k c)) (masks_from k (suc c) n ++ rest) (subst (λ (m : ℕ). mask_of (k m) < 2 ^ 64) z g) ∙ ap (λ (m : ℕ). mask_of (k m)) (sym z)
masks_at k c (suc n) (suc i) rest h g =
    let z : c + suc i ≡ suc c + i = omega arith in
    let e : 8 * suc i ≡ 8 + 8 * i = omega arith in
    ap (λ (m : ℕ). eight m (bytes8 (mask_of (k c)) ++ (masks_from k (suc c) n ++ rest))) e
    ∙ (eight_after (bytes8 (mask_of (k c))) (masks_from k (suc c) n ++ rest) (8 * i)
    ∙ (masks_at k (suc c) n i rest (omega arith) (subst (λ (m : ℕ). mask_of (k m) < 2 ^ 64) z g) ∙ ap (λ (m : ℕ). mask_of (k m)) (sym z)))

-- the writing of classes holds them, whatever follows
pub masks_classes : (k : Classes) (rest : List ℕ) → classes_shaped k ≡ true → OnlyClasses k → classes_in (masks_of k ++ rest) ≡ k
unfolding classes_in masks_of
masks_classes k rest e o = fun_ext (λ c. by_bool (is_class c) (λ t. rw t (inside c t)) (λ t. rw t (sym (o c t))))
  where
    inside : (c : ℕ) → is_class c ≡ true → letters_in (eight (mask_start c) (masks_from k 64 32 ++ rest)) ≡ k c
    inside c t =
        let a = class_low c t in
        let b = class_high c t in
        let z : 64 + (c - 64) ≡ c = omega arith in
        let s = class_set k e c t in
        ap letters_in (masks_at k 64 32 (c - 64) rest (omega arith) (subst (λ (m : ℕ). mask_of (k m) < 2 ^ 64) (sym z) (mask_word (k c) s)) ∙ ap (λ (m : ℕ). mask_of (k m)) z)
        ∙ letters_mask (k c) s

-- only the first 256 bytes count
pub classes_same : (d e : List ℕ) → ((i : ℕ) → i < masks_size → get_or d i 0 ≡ get_or e i 0) → classes_in d ≡ classes_in e
unfolding classes_in
classes_same d e h = fun_ext (λ c. by_bool (is_class c) (λ t. rw t (ap letters_in (inside c t))) (λ t. rw t))
  where
    inside : (c : ℕ) → is_class c ≡ true → eight (mask_start c) d ≡ eight (mask_start c) e
    inside c t =
        let a = class_low c t in
        let b = class_high c t in
        eight_same d e (mask_start c) (λ i p q. h i (omega arith))

pub classes_take : (d : List ℕ) → classes_in (take masks_size d) ≡ classes_in d
classes_take d = classes_same (take masks_size d) d (λ i h. get_or-take masks_size d i 0 h)

pub classes_front : (d e : List ℕ) → masks_size ≤ length d → classes_in (d ++ e) ≡ classes_in d
classes_front d e h = classes_same (d ++ e) d (λ i g. get_or-append d e 0 i (omega arith))

pub masks_hold : (k : Classes) → classes_shaped k ≡ true → OnlyClasses k → classes_in (masks_of k) ≡ k
masks_hold k e o = sym (classes_front (masks_of k) [] (omega (arith, length_masks k))) ∙ masks_classes k [] e o

-- no class is written as zeros
pub masks_none : masks_of no_classes ≡ replicate masks_size 0
unfolding masks_of mask_with
masks_none = refl
