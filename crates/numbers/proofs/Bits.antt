-- Numbers as sets of binary digits.
-- Assumes nothing.
use mathlib.Core.Path.{◌≡◌, refl, sym, ap, ◌∙◌}
use Prim.Native.Nat.{ℕ, zero, suc, ◌+◌, ◌*◌, ◌/◌, ◌%◌, ◌^◌, ◌<◌, max}
use native.Mathlib.Nat.{zero-max, max-zero, suc-max-suc, pow-succ', div-div-eq-div-mul, div-one, one-mul}
use native.Mathlib.Omega.{arith}
use mathlib.Core.Bool.{Bool, true, false, ◌||◌, or-false, or-true}
use mathlib.Core.List.{List}
use lib.Dec.{eqb, eqb-suc-suc, eqb-zero-suc, eqb-suc-zero}
use lib.ListN.{length, get_or, set}
use lib.Bits.{bit_or, or_step}
use lib.Pow.{shl_exact}
use lib.Seq.{get_or-set_same, get_or-set_other}
use borrow.Author.Tests.{eq-eqb, ne_eqb, eqb-true, eqb-false}
use Rattle.numbers.specs.Bits.{pos, bit, held}

pub two_low : (q r : ℕ) → r < 2 → (q * 2 + r) % 2 ≡ r
two_low q r h = omega arith

pub two_high : (q r : ℕ) → r < 2 → (q * 2 + r) / 2 ≡ q
two_high q r h = omega arith

pos_max : (x y : ℕ) → pos (max x y) ≡ (pos x || pos y)
pos_max zero y = rw (zero-max y)
pos_max (suc x) zero = rw (max-zero (suc x))
pos_max (suc x) (suc y) = rw (suc-max-suc x y)

pub bit-or : (k a b : ℕ) → bit (bit_or a b) k ≡ (bit a k || bit b k)
unfolding bit
bit-or zero a b =
    ap pos (ap (λ (x : ℕ). x % 2) (or_step a b) ∙ two_low (bit_or (a / 2) (b / 2)) (max (a % 2) (b % 2)) (omega arith)) ∙ pos_max (a % 2) (b % 2)
bit-or (suc k) a b =
    ap (λ (x : ℕ). bit x k) (ap (λ (x : ℕ). x / 2) (or_step a b) ∙ two_high (bit_or (a / 2) (b / 2)) (max (a % 2) (b % 2)) (omega arith))
    ∙ bit-or k (a / 2) (b / 2)

pub bit_zero : (k : ℕ) → bit 0 k ≡ false
unfolding bit
bit_zero zero = refl
bit_zero (suc k) = bit_zero k

pub bit_one : (k j : ℕ) → bit (2 ^ k) j ≡ eqb j k
unfolding bit
bit_one zero zero = refl
bit_one zero (suc j) = bit_zero j ∙ sym (eqb-suc-zero j)
bit_one (suc k) zero =
    let h : 2 ^ suc k % 2 ≡ 0 = omega arith in
    rw h (sym (eqb-zero-suc k))
bit_one (suc k) (suc j) =
    let h : 2 ^ suc k / 2 ≡ 2 ^ k = omega arith in
    rw h (bit_one k j ∙ sym (eqb-suc-suc j k))

pub bit_set : (x k j : ℕ) → bit (bit_or x (2 ^ k)) j ≡ (bit x j || eqb j k)
bit_set x k j = bit-or j x (2 ^ k) ∙ rw (bit_one k j)

-- a bit is tested by a shift
bit_shift : (k x : ℕ) → bit x k ≡ pos (x / 2 ^ k % 2)
unfolding bit
bit_shift zero x = ap (λ (q : ℕ). pos (q % 2)) (sym (div-one x))
bit_shift (suc k) x =
    bit_shift k (x / 2) ∙ ap (λ (q : ℕ). pos (q % 2)) (div-div-eq-div-mul x 2 (2 ^ k) ∙ ap (λ (q : ℕ). x / q) (sym (pow-succ' 2 k)))

one_pos : (q : ℕ) → q < 2 → eqb q 1 ≡ pos q
one_pos zero h = refl
one_pos (suc zero) h = refl
one_pos (suc (suc q)) h = absurd (omega arith)

pub bit_test : (k x : ℕ) → eqb (x / 2 ^ k % 2) 1 ≡ bit x k
bit_test k x = one_pos (x / 2 ^ k % 2) (omega arith) ∙ sym (bit_shift k x)

pub bit_put : (x k : ℕ) → k < 64 → bit_or x ((1 * 2 ^ k) % 2 ^ 64) ≡ bit_or x (2 ^ k)
bit_put x k h = ap (bit_or x) (shl_exact {a = 1} 1 k 64 (omega arith) (omega arith) ∙ one-mul (2 ^ k))

or_yes : (b c : Bool) → c ≡ true → (b || c) ≡ true
or_yes b c e = rw e (or-true b)

or_no : (b c : Bool) → c ≡ false → (b || c) ≡ b
or_no b c e = rw e (or-false b)

-- the words with number n put in
module _ (words : List ℕ) (n : ℕ) (h : n / 64 < length words) where
  abbrev pub put_in : List ℕ
  put_in = set words (n / 64) (bit_or (get_or words (n / 64) 0) (2 ^ (n % 64)))

  same_word : (k : ℕ) → k / 64 ≡ n / 64 → held put_in k ≡ (held words k || eqb (k % 64) (n % 64))
  same_word k e =
      ap (λ (q : ℕ). bit (get_or put_in q 0) (k % 64)) e
      ∙ (ap (λ (q : ℕ). bit q (k % 64)) (get_or-set_same words (n / 64) (bit_or (get_or words (n / 64) 0) (2 ^ (n % 64))) 0 h)
      ∙ (bit_set (get_or words (n / 64) 0) (n % 64) (k % 64)
      ∙ ap (λ (q : ℕ). bit (get_or words q 0) (k % 64) || eqb (k % 64) (n % 64)) (sym e)))

  by_word : (k : ℕ) → (n ≡ k → ⊥) → (b : Bool) → eqb (k / 64) (n / 64) ≡ b → held put_in k ≡ held words k
  by_word k ne true t =
      let e : k / 64 ≡ n / 64 = eqb-true (k / 64) (n / 64) t in
      same_word k e ∙ or_no (held words k) (eqb (k % 64) (n % 64)) (ne_eqb (k % 64) (n % 64) (λ (q : k % 64 ≡ n % 64). ne (omega arith)))
  by_word k ne false t =
      ap (λ (q : ℕ). bit q (k % 64)) (get_or-set_other words (n / 64) (k / 64) (bit_or (get_or words (n / 64) 0) (2 ^ (n % 64))) 0 (eqb-false (k / 64) (n / 64) t))

  pub held_put : (k : ℕ) (b : Bool) → eqb n k ≡ b → held put_in k ≡ (b || held words k)
  held_put k true t =
      let e : n ≡ k = eqb-true n k t in
      let d : k / 64 ≡ n / 64 = omega arith in
      let m : k % 64 ≡ n % 64 = omega arith in
      same_word k d ∙ or_yes (held words k) (eqb (k % 64) (n % 64)) (eq-eqb (k % 64) (n % 64) m)
  held_put k false t = by_word k (eqb-false n k t) (eqb (k / 64) (n / 64)) refl
