-- When the letters of a mask are those of a class, and the mask of letters.
--     letters-mask     the mask of letters has them
--     mask-letters     the letters of a mask have it
-- Assumes nothing.
use Prim.Native.Nat.{ℕ, zero, suc, ◌+◌, ◌/◌, ◌%◌, ◌^◌, ◌≤◌, ◌<◌}
use mathlib.Core.Path.{◌≡◌, refl, sym, ap, ap₂, ◌∙◌, subst}
use mathlib.Core.List.{List, [], ◌∷◌, ◌++◌, append_assoc, append-nil}
use mathlib.Core.Bool.{Bool, true, false, ◌&&◌, and-true, and-false}
use native.Mathlib.Omega.{arith}
use borrow.Author.Tests.{leb-true, le-leb, lt-leb}
use lib.Bits.{bit_or, or_lt}
use lib.Dec.{leb}
use lib.ListN.{length, get_or, drop, drop_of_length-le}
use lib.Pow.{pow-lt, pow_mono}
use lib.Seq.{drop-cons}
use Rattle.std.specs.Prelude.{Some, None}
use Rattle.rules.proofs.Cases.{and_l, and_r, and_i}
use Rattle.numbers.specs.Bits.{pos, bit}
use Rattle.classes.specs.Classes.{is_in, ascending, letter_set, class_shape}
use Rattle.classes.specs.Masks.{digits_from, letters_in, mask_with, mask_of, class_mask}
use Rattle.classes.proofs.Letters.{by_digit, digits_odd, digits_even, digits_none, letters_none, letters_more, mask_some, in_letters}

-- ---- the letters of a mask

odd_first : (x : ℕ) → x % 2 ≡ 1 → ascending 1 (letters_in x) ≡ false
unfolding letters_in
odd_first x e = ap (ascending 1) (digits_odd 63 0 x e)

lower : (b : ℕ) (l : List ℕ) → ascending (suc b) l ≡ true → ascending b l ≡ true
lower b [] h = refl
lower b (y ∷ l) h =
    let u = leb-true (suc b) y (and_l (leb (suc b) y) _ h) in
    and_i (le-leb b y (omega arith)) (and_r (leb (suc b) y) _ h)

-- m digits from b on, none above 3E
digits_ascend : (n m b x : ℕ) → x < 2 ^ m → b + m ≤ 63 → ascending b (digits_from n b x) ≡ true
unfolding digits_from
digits_ascend zero m b x h g = refl
digits_ascend (suc n) zero b x h g =
    let z : x ≡ 0 = omega arith in
    ap (λ (y : ℕ). ascending b (digits_from (suc n) b y)) z ∙ ap (ascending b) (digits_none (suc n) b)
digits_ascend (suc n) (suc m) b x h g =
    let i = digits_ascend n m (suc b) (x / 2) (omega arith) (omega arith) in
    by_digit x (λ q. rw q (lower b (digits_from n (suc b) (x / 2)) i)) (λ q. rw (q, le-leb b b (omega arith), le-leb b 62 (omega arith)) i)

-- the highest of n + 1 digits is set, and lies above 3E
past : (n b x : ℕ) → 2 ^ n ≤ x → x < 2 ^ suc n → 62 < b + n → (c : ℕ) → ascending c (digits_from (suc n) b x) ≡ false
unfolding digits_from
past zero b x h g u c =
    let z : x % 2 ≡ 1 = omega arith in
    rw (z, lt-leb b 62 (omega arith)) (and-false (leb c b))
past (suc n) b x h g u c =
    by_digit x
    (λ q. rw q (past n (suc b) (x / 2) (omega arith) (omega arith) (omega arith) c))
    (λ q. rw (q, past n (suc b) (x / 2) (omega arith) (omega arith) (omega arith) (suc b), and-false (leb b 62)) (and-false (leb c b)))

pub shaped_odd : (x : ℕ) → x % 2 ≡ 1 → false ≡ letter_set (letters_in x)
shaped_odd x e = sym (ap (λ (b : Bool). leb (length (letters_in x)) 32 && b) (odd_first x e) ∙ and-false (leb (length (letters_in x)) 32))

pub shaped_high : (x : ℕ) → 2 ^ 63 ≤ x → x < 2 ^ 64 → false ≡ letter_set (letters_in x)
unfolding letters_in
shaped_high x h g = sym (ap (λ (b : Bool). leb (length (digits_from 64 0 x)) 32 && b) (past 63 0 x h g (omega arith) 1) ∙ and-false (leb (length (digits_from 64 0 x)) 32))

pub shaped_rest : (x : ℕ) → (x % 2 ≡ 1 → ⊥) → x < 2 ^ 63 → leb (length (letters_in x)) 32 ≡ letter_set (letters_in x)
unfolding letters_in
shaped_rest x n h =
    let e : x % 2 ≡ 0 = omega arith in
    let a : ascending 1 (digits_from 64 0 x) ≡ true = ap (ascending 1) (digits_even 63 0 x e) ∙ digits_ascend 63 62 1 (x / 2) (omega arith) (omega arith) in
    sym (and-true (leb (length (digits_from 64 0 x)) 32)) ∙ ap (λ (b : Bool). leb (length (digits_from 64 0 x)) 32 && b) (sym a)

-- ---- the mask of letters

pub record Masked (b m : ℕ) (l : List ℕ) : Type 0 where
  pub are : letters_in (mask_with m l) ≡ letters_in m ++ l
  pub small : mask_with m l < 2 ^ 63

or_more : (c m : ℕ) → m < 2 ^ c → bit_or m (2 ^ c) < 2 ^ suc c
or_more c m h = or_lt (suc c) m (2 ^ c) (omega (arith, pow-lt {i = c} {j = suc c} (omega arith))) (pow-lt {i = c} {j = suc c} (omega arith))

masked_step : (b m c : ℕ) (l : List ℕ) → c < 64 → m < 2 ^ c → Masked (suc c) (bit_or m (2 ^ c)) l → Masked b m (c ∷ l)
unfolding mask_with
masked_step b m c l h g i = record {
  are = i.are ∙ (ap (λ (w : List ℕ). w ++ l) (letters_more c m h g) ∙ append_assoc (letters_in m) (c ∷ []) l);
  small = i.small;
}

masked : (b m : ℕ) (l : List ℕ) → m < 2 ^ b → b ≤ 63 → ascending b l ≡ true → Masked b m l
unfolding mask_with
masked b m [] h g e = record { are = sym (append-nil (letters_in m)); small = omega (arith, pow_mono g) }
masked b m (c ∷ l) h g e =
    let u = leb-true b c (and_l (leb b c) _ e) in
    let r = and_r (leb b c) _ e in
    let v = leb-true c 62 (and_l (leb c 62) _ r) in
    let s : m < 2 ^ c = omega (arith, pow_mono u) in
    masked_step b m c l (omega arith) s (masked (suc c) (bit_or m (2 ^ c)) l (or_more c m s) (omega arith) (and_r (leb c 62) _ r))

set_ascends : (l : List ℕ) → letter_set l ≡ true → ascending 1 l ≡ true
set_ascends l e = and_r (leb (length l) 32) _ e

-- the mask of letters has them
pub letters_mask : (l : List ℕ) → letter_set l ≡ true → letters_in (mask_of l) ≡ l
letters_mask l e =
    (masked 1 0 l (omega arith) (omega arith) (set_ascends l e)).are ∙ ap (λ (w : List ℕ). w ++ l) letters_none

pub mask_small : (l : List ℕ) → letter_set l ≡ true → mask_of l < 2 ^ 63
mask_small l e = (masked 1 0 l (omega arith) (omega arith) (set_ascends l e)).small

pub mask_word : (l : List ℕ) → letter_set l ≡ true → mask_of l < 2 ^ 64
mask_word l e = let h = mask_small l e in omega arith

pub shape_set : (l : List ℕ) → class_shape l ≡ true → letter_set l ≡ true
unfolding class_shape
shape_set l e = and_r (leb 1 (length l)) _ e

pub shape_some : (l : List ℕ) → class_shape l ≡ true → 1 ≤ length l
unfolding class_shape
shape_some l e = leb-true 1 (length l) (and_l (leb 1 (length l)) _ e)

-- the mask of a class is not 0
pub class_some : (l : List ℕ) → class_shape l ≡ true → 1 ≤ mask_of l
class_some l e = mask_some (mask_of l) (omega (arith, ap length (letters_mask l (shape_set l e)), shape_some l e))

-- ---- masks with the same letters are the same

low_same : (a b : ℕ) → a < 2 → b < 2 → pos a ≡ pos b → a ≡ b
low_same zero zero h g e = refl
low_same zero (suc b) h g e = let z : ◌≡◌ {A = ℕ} 0 1 = cc in absurd (omega arith)
low_same (suc a) zero h g e = let z : ◌≡◌ {A = ℕ} 0 1 = cc in absurd (omega arith)
low_same (suc a) (suc b) h g e = omega arith

bits_same : (n x y : ℕ) → x < 2 ^ n → y < 2 ^ n → ((e : ℕ) → e < n → bit x e ≡ bit y e) → x ≡ y
unfolding bit
bits_same zero x y h g f = omega arith
bits_same (suc n) x y h g f =
    let i = bits_same n (x / 2) (y / 2) (omega arith) (omega arith) (λ e u. f (suc e) (omega arith)) in
    let j = low_same (x % 2) (y % 2) (omega arith) (omega arith) (f 0 (omega arith)) in
    omega arith

pub letters_same : (x y : ℕ) → x < 2 ^ 64 → y < 2 ^ 64 → letters_in x ≡ letters_in y → x ≡ y
letters_same x y h g e = bits_same 64 x y h g (λ i u. sym (in_letters x i u) ∙ (ap (is_in i) e ∙ in_letters y i u))

-- the letters of a mask have it
pub mask_letters : (x : ℕ) → x < 2 ^ 64 → letter_set (letters_in x) ≡ true → mask_of (letters_in x) ≡ x
mask_letters x h e = letters_same (mask_of (letters_in x)) x (mask_word (letters_in x) e) h (letters_mask (letters_in x) e)

-- ---- the mask of letters, as a loop finds it: i are taken, and the next is at least low

pub record Taken (s : List ℕ) (low mask i : ℕ) : Type 0 where
  pub few : low ≤ 63
  pub below : mask < 2 ^ low
  pub whole : mask_of s ≡ mask_with mask (drop i s)
  pub rest : ascending 1 s ≡ ascending low (drop i s)

pub taken_begin : (s : List ℕ) → Taken s 1 0 0
taken_begin s = record { few = omega arith; below = omega arith; whole = refl; rest = refl }

-- what is told of letters that are no class, and of those that are one
told_none : (s : List ℕ) → class_shape s ≡ false → None ≡ class_mask s
told_none s e = rw e

told_class : (s : List ℕ) → class_shape s ≡ true → (r : ℕ) → r ≡ mask_of s → Some r ≡ class_mask s
told_class s e r er = rw e (ap Some er)

shape_tail : (s : List ℕ) → 1 ≤ length s → length s ≤ 32 → class_shape s ≡ ascending 1 s
unfolding class_shape
shape_tail s h g = rw (le-leb 1 (length s) h, le-leb (length s) 32 g)

pub none_short : (s : List ℕ) → length s < 1 → None ≡ class_mask s
unfolding class_shape
none_short s h = told_none s (rw (lt-leb 1 (length s) h))

pub none_long : (s : List ℕ) → 32 < length s → None ≡ class_mask s
unfolding class_shape
none_long s h = told_none s (rw (lt-leb (length s) 32 h) (and-false (leb 1 (length s))))

module _ (s : List ℕ) (least : 1 ≤ length s) (most : length s ≤ 32) (low mask i : ℕ) (inv : Taken s low mask i) where
  module _ (h : i < length s) (c : ℕ) (ec : c ≡ get_or s i 0) where
    front : drop i s ≡ c ∷ drop (suc i) s
    front = drop-cons s i 0 h ∙ ap (λ (x : ℕ). x ∷ drop (suc i) s) (sym ec)

    refuse : ascending low (drop i s) ≡ false → None ≡ class_mask s
    refuse e = told_none s (shape_tail s least most ∙ (inv.rest ∙ e))

    pub none_low : c < low → None ≡ class_mask s
    none_low u = refuse (ap (ascending low) front ∙ rw (lt-leb low c u))

    pub none_high : 62 < c → None ≡ class_mask s
    none_high u = refuse (ap (ascending low) front ∙ rw (lt-leb c 62 u) (and-false (leb low c)))

    pub taken_next : low ≤ c → c ≤ 62 → (x : ℕ) → x ≡ bit_or mask (2 ^ c) → Taken s (c + 1) x (i + 1)
    unfolding mask_with
    taken_next l u x ex =
        let n : suc c ≡ c + 1 = omega arith in
        let m : suc i ≡ i + 1 = omega arith in
        let small : mask < 2 ^ c = omega (arith, inv.below, pow_mono l) in
        record {
          few = omega arith;
          below = subst (λ (y : ℕ). y < 2 ^ (c + 1)) (sym ex) (subst (λ (y : ℕ). bit_or mask (2 ^ c) < 2 ^ y) n (or_more c mask small));
          whole = inv.whole ∙ (ap (mask_with mask) front ∙ ap₂ (λ (y z : ℕ). mask_with y (drop z s)) (sym ex) m);
          rest = inv.rest ∙ (ap (ascending low) front ∙ rw (le-leb low c l, le-leb c 62 u) (ap₂ (λ (y z : ℕ). ascending y (drop z s)) n m));
        }

  pub taken_end : length s ≤ i → Some mask ≡ class_mask s
  unfolding mask_with
  taken_end h =
      let e = drop_of_length-le s {i = i} h in
      told_class s (shape_tail s least most ∙ (inv.rest ∙ ap (ascending low) e)) mask (sym (inv.whole ∙ ap (mask_with mask) e))
