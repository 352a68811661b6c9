-- A mask as the ascending list of its letters: how many they are, which is letter d, which are in it, and how the lowest is taken away.
-- Assumes nothing.
use Prim.Native.Nat.{ℕ, zero, suc, ◌+◌, ◌-◌, ◌*◌, ◌/◌, ◌%◌, ◌^◌, ◌≤◌, ◌<◌, min, max}
use mathlib.Core.Path.{◌≡◌, refl, sym, ap, ap₂, ◌∙◌}
use mathlib.Core.List.{List, [], ◌∷◌, ◌++◌}
use mathlib.Core.Bool.{Bool, false, ◌&&◌, and-false}
use native.Mathlib.Omega.{arith}
use native.Mathlib.Nat.{mod-eq_of_lt, mod-lt, one-mul, zero-min, min-zero, max-zero}
use native.Mathlib.Numerals.{add-one}
use borrow.Author.Tests.{eq-eqb, ne_eqb, eqb-true, eqb-false}
use lib.Bits.{bit_and, bit_or, and_step, and_self, and_mask, and_le_r, or_zero_l, or_step}
use lib.Count.{ones, ones_in, ones_step, ones-le, count_trailing_zeros}
use lib.Pow.{mod-pow-add, shl_exact, pow_pos}
use lib.Dec.{eqb, eqb-suc-suc, eqb-zero-suc, eqb-suc-zero}
use lib.ListN.{length, get_or, drop, length-drop}
use lib.Seq.{drop-drop, get_or-drop}
use Rattle.numbers.specs.Bits.{bit}
use Rattle.numbers.proofs.Bits.{two_low, two_high}
use Rattle.rules.proofs.Cases.{by_bool}
use Rattle.classes.specs.Classes.{is_in}
use Rattle.classes.specs.Masks.{digits_from, letters_in}

-- the lowest digit is 0 or 1
pub by_digit {ℓ} : {A : Type ℓ} (x : ℕ) → (x % 2 ≡ 0 → A) → (x % 2 ≡ 1 → A) → A
by_digit x f g = by_bool (eqb (x % 2) 0) (λ e. f (eqb-true (x % 2) 0 e)) (λ e. g (one (x % 2) (omega arith) (eqb-false (x % 2) 0 e)))
  where
    one : (d : ℕ) → d < 2 → (d ≡ 0 → ⊥) → d ≡ 1
    one zero h n = absurd (n refl)
    one (suc zero) h n = refl
    one (suc (suc d)) h n = absurd (omega arith)

pub digits_even : (n b x : ℕ) → x % 2 ≡ 0 → digits_from (suc n) b x ≡ digits_from n (suc b) (x / 2)
unfolding digits_from
digits_even n b x e = rw e

pub digits_odd : (n b x : ℕ) → x % 2 ≡ 1 → digits_from (suc n) b x ≡ b ∷ digits_from n (suc b) (x / 2)
unfolding digits_from
digits_odd n b x e = rw e

-- ---- how many

length_digits : (n b x : ℕ) → length (digits_from n b x) ≡ ones_in n x
unfolding digits_from ones_in
length_digits zero b x = refl
length_digits (suc n) b x =
    by_digit x
    (λ e. rw e (let h = length_digits n (suc b) (x / 2) in omega arith))
    (λ e. rw e (let h = length_digits n (suc b) (x / 2) in omega arith))

pub ones_low : (n x : ℕ) → ones_in n x ≡ ones (x % 2 ^ n)
unfolding ones ones_in
ones_low zero x = let e : x % 2 ^ zero ≡ 0 = omega arith in sym (ap ones e)
ones_low (suc n) x =
    let e : x % 2 ^ suc n ≡ x / 2 % 2 ^ n * 2 + x % 2 = ap (λ (m : ℕ). x % 2 ^ m) (sym (add-one n)) ∙ mod-pow-add x n 1 in
    sym
    (ap ones e ∙ (ones_step (x / 2 % 2 ^ n * 2 + x % 2)
    ∙ (ap₂ (λ (a b : ℕ). a + ones b) (two_low (x / 2 % 2 ^ n) (x % 2) (omega arith)) (two_high (x / 2 % 2 ^ n) (x % 2) (omega arith))
    ∙ ap (λ (m : ℕ). x % 2 + m) (sym (ones_low n (x / 2))))))

pub length_letters : (x : ℕ) → x < 2 ^ 64 → length (letters_in x) ≡ ones x
unfolding letters_in
length_letters x h = length_digits 64 0 x ∙ (ones_low 64 x ∙ ap ones (mod-eq_of_lt h))

pub ones_few : (x : ℕ) → x < 2 ^ 64 → ones x ≤ 64
ones_few x h = ones-le 64 x h

-- ---- each digit lies from b on, below b + n

head_in : (b n : ℕ) (l : List ℕ) (i : ℕ) → ((d : ℕ) → d < length l → (suc b ≤ get_or l d 0) × (get_or l d 0 < suc b + n)) → i < suc (length l)
    → (b ≤ get_or (b ∷ l) i 0) × (get_or (b ∷ l) i 0 < b + suc n)
head_in b n l zero h g = (omega arith, omega arith)
head_in b n l (suc i) h g = let u = h i (omega arith) in (omega arith, omega arith)

digits_in : (n b x d : ℕ) → d < length (digits_from n b x) → (b ≤ get_or (digits_from n b x) d 0) × (get_or (digits_from n b x) d 0 < b + n)
unfolding digits_from
digits_in zero b x d h = absurd (omega arith)
digits_in (suc n) b x d h =
    by_digit x
    (λ e. rw e (let u = digits_in n (suc b) (x / 2) d (rw e at h) in (omega arith, omega arith)))
    (λ e. rw e (head_in b n (digits_from n (suc b) (x / 2)) d (λ i g. digits_in n (suc b) (x / 2) i g) (rw e at h)))

pub letters_below : (x d : ℕ) → d < length (letters_in x) → get_or (letters_in x) d 0 < 64
unfolding letters_in
letters_below x d h = let u = digits_in 64 0 x d h in omega arith

-- ---- letter d

above_not : (n b x d : ℕ) → d < length (digits_from n (suc b) x) → eqb (get_or (digits_from n (suc b) x) d 0) (b + zero) ≡ false
above_not n b x d h = let u = digits_in n (suc b) x d h in ne_eqb (get_or (digits_from n (suc b) x) d 0) (b + zero) (λ q. omega arith)

digit_odd : (b e : ℕ) (t : Bool) (o : ℕ) (l : List ℕ) (i : ℕ) → ((d : ℕ) → d < length l → eqb (get_or l d 0) (suc b + e) ≡ (t && eqb o d))
    → i < suc (length l) → eqb (get_or (b ∷ l) i 0) (suc b + e) ≡ (t && eqb (suc o) i)
digit_odd b e t o l zero h u = ne_eqb b (suc b + e) (λ q. omega arith) ∙ sym (ap (λ (v : Bool). t && v) (eqb-suc-zero o) ∙ and-false t)
digit_odd b e t o l (suc i) h u = h i (omega arith) ∙ ap (λ (v : Bool). t && v) (sym (eqb-suc-suc o i))

-- letter d is the digit e above b where digit e is set and d digits below it are
digit_is : (n b x e d : ℕ) → e < n → d < length (digits_from n b x)
    → eqb (get_or (digits_from n b x) d 0) (b + e) ≡ (bit x e && eqb (ones_in e x) d)
unfolding digits_from ones_in bit
digit_is zero b x e d h g = absurd (omega arith)
digit_is (suc n) b x zero d h g =
    by_digit x
    (λ q. rw q (above_not n b (x / 2) d (rw q at g)))
    (λ q. rw q (odd d (rw q at g)))
  where
    odd : (i : ℕ) → i < suc (length (digits_from n (suc b) (x / 2))) → eqb (get_or (b ∷ digits_from n (suc b) (x / 2)) i 0) (b + zero) ≡ eqb 0 i
    odd zero u = eq-eqb b (b + zero) (omega arith)
    odd (suc i) u = above_not n b (x / 2) i (omega arith) ∙ sym (eqb-zero-suc i)
digit_is (suc n) b x (suc e) d h g =
    let s : b + suc e ≡ suc b + e = omega arith in
    by_digit x
    (λ q.
    let z : 0 + ones_in e (x / 2) ≡ ones_in e (x / 2) = omega arith in
    rw (q, z, s) (digit_is n (suc b) (x / 2) e d (omega arith) (rw q at g)))
    (λ q. let z : 1 + ones_in e (x / 2) ≡ suc (ones_in e (x / 2)) = omega arith in rw (q, z, s) (digit_odd b e (bit (x / 2) e) (ones_in e (x / 2)) (digits_from n (suc b) (x / 2)) d (λ i u. digit_is n (suc b) (x / 2) e i (omega arith) u) (rw q at g)))

-- letter d of a mask is c where c is in it and d letters of it are below c
pub letter_is : (x c d : ℕ) → c < 64 → d < length (letters_in x) → eqb (get_or (letters_in x) d 0) c ≡ (bit x c && eqb (ones_in c x) d)
unfolding letters_in
letter_is x c d h g = let e : c ≡ 0 + c = omega arith in ap (eqb (get_or (digits_from 64 0 x) d 0)) e ∙ digit_is 64 0 x c d h g

-- letter d of a mask is no letter above 63
pub letter_high : (x d y : ℕ) → d < length (letters_in x) → 63 < y → eqb (get_or (letters_in x) d 0) y ≡ false
letter_high x d y h g = let u = letters_below x d h in ne_eqb (get_or (letters_in x) d 0) y (λ e. omega arith)

-- ---- membership

pub none_under : (n b x y : ℕ) → y < b → is_in y (digits_from n b x) ≡ false
unfolding digits_from
none_under zero b x y h = refl
none_under (suc n) b x y h =
    by_digit x
    (λ q. rw q (none_under n (suc b) (x / 2) y (omega arith)))
    (λ q. rw (q, ne_eqb b y (λ z. omega arith)) (none_under n (suc b) (x / 2) y (omega arith)))

none_above : (n b x y : ℕ) → b + n ≤ y → is_in y (digits_from n b x) ≡ false
unfolding digits_from
none_above zero b x y h = refl
none_above (suc n) b x y h =
    by_digit x
    (λ q. rw q (none_above n (suc b) (x / 2) y (omega arith)))
    (λ q. rw (q, ne_eqb b y (λ z. omega arith)) (none_above n (suc b) (x / 2) y (omega arith)))

in_digits : (n b x e : ℕ) → e < n → is_in (b + e) (digits_from n b x) ≡ bit x e
unfolding digits_from bit
in_digits zero b x e h = absurd (omega arith)
in_digits (suc n) b x zero h =
    by_digit x
    (λ q. rw q (none_under n (suc b) (x / 2) (b + zero) (omega arith)))
    (λ q. rw (q, eq-eqb b (b + zero) (omega arith)))
in_digits (suc n) b x (suc e) h =
    let s : b + suc e ≡ suc b + e = omega arith in
    by_digit x
    (λ q. rw q (ap (λ (u : ℕ). is_in u (digits_from n (suc b) (x / 2))) s ∙ in_digits n (suc b) (x / 2) e (omega arith)))
    (λ q. rw (q, ne_eqb b (b + suc e) (λ z. omega arith)) (ap (λ (u : ℕ). is_in u (digits_from n (suc b) (x / 2))) s ∙ in_digits n (suc b) (x / 2) e (omega arith)))

-- letter y is in a mask where bit y is set
pub in_letters : (x y : ℕ) → y < 64 → is_in y (letters_in x) ≡ bit x y
unfolding letters_in
in_letters x y h = let z : y ≡ 0 + y = omega arith in ap (λ (u : ℕ). is_in u (digits_from 64 0 x)) z ∙ in_digits 64 0 x y h

pub in_high : (x y : ℕ) → 63 < y → is_in y (letters_in x) ≡ false
unfolding letters_in
in_high x y h = none_above 64 0 x y (omega arith)

-- ---- the lowest letter, and a mask without it

digits_clear : (n b x : ℕ) → digits_from n b (bit_and x (x - 1)) ≡ drop 1 (digits_from n b x)
unfolding digits_from
digits_clear zero b x = refl
digits_clear (suc n) b x =
    by_digit x
    (λ q.
    let h : (x - 1) / 2 ≡ x / 2 - 1 = omega arith in
    let e : bit_and x (x - 1) ≡ bit_and (x / 2) (x / 2 - 1) * 2 + 0 =
    and_step x (x - 1) ∙ ap₂ (λ (u v : ℕ). bit_and (x / 2) u * 2 + v) h (ap (λ (m : ℕ). min m ((x - 1) % 2)) q ∙ zero-min ((x - 1) % 2)) in
    rw (q, e, two_low (bit_and (x / 2) (x / 2 - 1)) 0 (omega arith), two_high (bit_and (x / 2) (x / 2 - 1)) 0 (omega arith))
    (digits_clear n (suc b) (x / 2)))
    (λ q.
    let h : (x - 1) / 2 ≡ x / 2 = omega arith in
    let m : (x - 1) % 2 ≡ 0 = omega arith in
    let e : bit_and x (x - 1) ≡ x / 2 * 2 + 0 =
    and_step x (x - 1) ∙ ap₂ (λ (u v : ℕ). u * 2 + v) (ap (bit_and (x / 2)) h ∙ and_self (x / 2)) (ap (min (x % 2)) m ∙ min-zero (x % 2)) in
    rw (q, e, two_low (x / 2) 0 (omega arith), two_high (x / 2) 0 (omega arith)))

pub letters_clear : (x : ℕ) → letters_in (bit_and x (x - 1)) ≡ drop 1 (letters_in x)
unfolding letters_in
letters_clear x = digits_clear 64 0 x

pub clear_less : (x : ℕ) → 1 ≤ x → bit_and x (x - 1) < x
clear_less x h = let u = and_le_r x (x - 1) in omega arith

digits_lowest : (n b x : ℕ) → 0 < length (digits_from n b x) → get_or (digits_from n b x) 0 0 ≡ b + count_trailing_zeros n x
unfolding digits_from count_trailing_zeros
digits_lowest zero b x h = absurd (omega arith)
digits_lowest (suc n) b x h =
    by_digit x
    (λ q. let g : 0 < length (digits_from n (suc b) (x / 2)) = rw q at h in rw q (let u = digits_lowest n (suc b) (x / 2) g in omega arith))
    (λ q. rw q (omega arith))

pub letters_lowest : (x : ℕ) → 0 < length (letters_in x) → get_or (letters_in x) 0 0 ≡ count_trailing_zeros 64 x
unfolding letters_in
letters_lowest x h = let u = digits_lowest 64 0 x h in omega arith

-- ---- the empty mask

pub digits_none : (n b : ℕ) → digits_from n b 0 ≡ []
unfolding digits_from
digits_none zero b = refl
digits_none (suc n) b = digits_none n (suc b)

pub letters_none : letters_in 0 ≡ []
unfolding letters_in
letters_none = digits_none 64 0

pub mask_some : (x : ℕ) → 0 < length (letters_in x) → 1 ≤ x
mask_some zero h = let e = ap length letters_none in absurd (omega arith)
mask_some (suc x) h = omega arith

digits_some : (n b x : ℕ) → 1 ≤ x → x < 2 ^ n → 0 < length (digits_from n b x)
unfolding digits_from
digits_some zero b x h g = absurd (omega arith)
digits_some (suc n) b x h g =
    by_digit x
    (λ q. rw q (digits_some n (suc b) (x / 2) (omega arith) (omega arith)))
    (λ q. rw q (omega arith))

-- a mask that is not 0 has a letter
pub letters_some : (x : ℕ) → 1 ≤ x → x < 2 ^ 64 → 0 < length (letters_in x)
unfolding letters_in
letters_some x h g = digits_some 64 0 x h g

front : (l : List ℕ) → 0 < length l → l ≡ get_or l 0 0 ∷ drop 1 l
front [] h = absurd (omega arith)
front (x ∷ l) h = refl

pub letters_front : (x : ℕ) → 1 ≤ x → x < 2 ^ 64 → letters_in x ≡ count_trailing_zeros 64 x ∷ drop 1 (letters_in x)
letters_front x h g =
    let s = letters_some x h g in
    front (letters_in x) s ∙ ap (λ (y : ℕ). y ∷ drop 1 (letters_in x)) (letters_lowest x s)

pub lowest_below : (x : ℕ) → 1 ≤ x → x < 2 ^ 64 → count_trailing_zeros 64 x < 64
lowest_below x h g = let s = letters_some x h g in let u = letters_below x 0 s in let e = letters_lowest x s in omega arith

-- ---- one letter, and one more above those that a mask has

pub digits_one : (n b e : ℕ) → e < n → digits_from n b (2 ^ e) ≡ (b + e) ∷ []
unfolding digits_from
digits_one zero b e h = absurd (omega arith)
digits_one (suc n) b zero h = ap₂ (λ (u : ℕ) (l : List ℕ). u ∷ l) (omega arith) (digits_none n (suc b))
digits_one (suc n) b (suc e) h =
    let m : 2 ^ suc e % 2 ≡ 0 = omega arith in
    let d : 2 ^ suc e / 2 ≡ 2 ^ e = omega arith in
    let s : suc b + e ≡ b + suc e = omega arith in
    rw (m, d) (digits_one n (suc b) e (omega arith) ∙ ap (λ (u : ℕ). u ∷ []) s)

pub letters_one : (c : ℕ) → c < 64 → letters_in (2 ^ c) ≡ c ∷ []
unfolding letters_in
letters_one c h = digits_one 64 0 c h ∙ (let z : 0 + c ≡ c = omega arith in ap (λ (u : ℕ). u ∷ []) z)

digits_more : (n b e x : ℕ) → e < n → x < 2 ^ e → digits_from n b (bit_or x (2 ^ e)) ≡ digits_from n b x ++ ((b + e) ∷ [])
unfolding digits_from
digits_more zero b e x h g = absurd (omega arith)
digits_more (suc n) b zero x h g =
    let z : x ≡ 0 = omega arith in
    ap (λ (y : ℕ). digits_from (suc n) b (bit_or y (2 ^ zero))) z
    ∙ (ap (digits_from (suc n) b) (or_zero_l (2 ^ zero)) ∙ (digits_one (suc n) b zero h ∙ sym (ap (λ (y : ℕ). digits_from (suc n) b y ++ ((b + zero) ∷ [])) z ∙ ap (λ (l : List ℕ). l ++ ((b + zero) ∷ [])) (digits_none (suc n) b))))
digits_more (suc n) b (suc e) x h g =
    let m : 2 ^ suc e % 2 ≡ 0 = omega arith in
    let d : 2 ^ suc e / 2 ≡ 2 ^ e = omega arith in
    let u : x / 2 < 2 ^ e = omega arith in
    let s : suc b + e ≡ b + suc e = omega arith in
    let o : bit_or x (2 ^ suc e) ≡ bit_or (x / 2) (2 ^ e) * 2 + x % 2 =
    or_step x (2 ^ suc e) ∙ ap₂ (λ (y z : ℕ). bit_or (x / 2) y * 2 + z) d (ap (max (x % 2)) m ∙ max-zero (x % 2)) in
    let i = digits_more n (suc b) e (x / 2) (omega arith) u ∙ ap (λ (y : ℕ). digits_from n (suc b) (x / 2) ++ (y ∷ [])) s in
    by_digit x
    (λ q. rw (o, two_low (bit_or (x / 2) (2 ^ e)) (x % 2) (omega arith), two_high (bit_or (x / 2) (2 ^ e)) (x % 2) (omega arith)) (rw q i))
    (λ q. rw (o, two_low (bit_or (x / 2) (2 ^ e)) (x % 2) (omega arith), two_high (bit_or (x / 2) (2 ^ e)) (x % 2) (omega arith)) (rw q (ap (λ (l : List ℕ). b ∷ l) i)))

pub letters_more : (c x : ℕ) → c < 64 → x < 2 ^ c → letters_in (bit_or x (2 ^ c)) ≡ letters_in x ++ (c ∷ [])
unfolding letters_in
letters_more c x h g = digits_more 64 0 c x h g ∙ (let z : 0 + c ≡ c = omega arith in ap (λ (y : ℕ). digits_from 64 0 x ++ (y ∷ [])) z)

-- ---- letter d, as a loop finds it: i letters are taken away

module _ (mask d : ℕ) (h : d < length (letters_in mask)) (x i : ℕ) (u : i ≤ d) (e : letters_in x ≡ drop i (letters_in mask)) where
  pub clear_some : 1 ≤ x
  clear_some = mask_some x (omega (arith, ap length e, length-drop i (letters_in mask)))

  pub clear_next : letters_in (bit_and x (x - 1)) ≡ drop (i + 1) (letters_in mask)
  clear_next = letters_clear x ∙ (ap (drop 1) e ∙ drop-drop 1 i (letters_in mask))

  pub clear_end : d ≤ i → count_trailing_zeros 64 x ≡ get_or (letters_in mask) d 0
  clear_end g =
      let z : i + 0 ≡ d = omega arith in
      sym (letters_lowest x (omega (arith, ap length e, length-drop i (letters_in mask))))
      ∙ (ap (λ (l : List ℕ). get_or l 0 0) e ∙ (get_or-drop i (letters_in mask) 0 0 ∙ ap (λ (n : ℕ). get_or (letters_in mask) n 0) z))

-- how many letters are below letter k, as it is computed
module _ (k : ℕ) (h : k < 64) where
  shifted : (1 * 2 ^ k) % 2 ^ 64 ≡ 2 ^ k
  shifted = shl_exact {a = 1} 1 k 64 (omega arith) (omega arith) ∙ one-mul (2 ^ k)

  pub shifted_some : 1 ≤ (1 * 2 ^ k) % 2 ^ 64
  shifted_some = rw shifted (pow_pos k)

  pub rank_is : (x : ℕ) → ones (bit_and x ((1 * 2 ^ k) % 2 ^ 64 - 1)) ≡ ones_in k x
  rank_is x = ap (λ (m : ℕ). ones (bit_and x (m - 1))) shifted ∙ (ap ones (and_mask x k) ∙ sym (ones_low k x))

  pub rank_few : (x : ℕ) → ones (bit_and x ((1 * 2 ^ k) % 2 ^ 64 - 1)) ≤ 63
  rank_few x =
      let e = ap (λ (m : ℕ). ones (bit_and x (m - 1))) shifted ∙ ap ones (and_mask x k) in
      let l = ones-le k (x % 2 ^ k) (mod-lt x (pow_pos k)) in
      omega arith
