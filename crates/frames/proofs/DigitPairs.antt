-- The digits of every byte, in one table.
-- Assumes nothing.
use Rattle.std.proofs.Common.{◌≡◌, ℕ, zero, suc, ◌+◌, ◌*◌, ◌/◌, ◌%◌, ◌<◌, List, [], ◌∷◌, length, get_or, refl, ap, ◌∙◌, arith}
use Rattle.frames.specs.Lines.{digit, digits}
use Rattle.frames.specs.Output.{count_from, digit_pairs}
use Rattle.frames.proofs.Output.{length_digits}

counted : (from n k : ℕ) → k < n → get_or (count_from from n) k 0 ≡ from + k
counted from zero k h = absurd (omega arith)
counted from (suc n) zero h = omega arith
counted from (suc n) (suc k) h = counted (suc from) n k (omega arith) ∙ omega arith

length_counted : (from n : ℕ) → length (count_from from n) ≡ n
length_counted from zero = refl
length_counted from (suc n) = ap suc (length_counted (suc from) n)

high_digit : (l : List ℕ) (k : ℕ) → k < length l → get_or (digits l) (2 * k) 0 ≡ digit (get_or l k 0 / 16)
high_digit [] k h = absurd (omega arith)
high_digit (b ∷ l) zero h = refl
high_digit (b ∷ l) (suc k) h = let e : 2 * suc k ≡ suc (suc (2 * k)) = omega arith in rw e (high_digit l k (omega arith))

low_digit : (l : List ℕ) (k : ℕ) → k < length l → get_or (digits l) (2 * k + 1) 0 ≡ digit (get_or l k 0 % 16)
low_digit [] k h = absurd (omega arith)
low_digit (b ∷ l) zero h = refl
low_digit (b ∷ l) (suc k) h = let e : 2 * suc k + 1 ≡ suc (suc (2 * k + 1)) = omega arith in rw e (low_digit l k (omega arith))

pub pairs_length : length digit_pairs ≡ 512
unfolding digit_pairs
pairs_length = omega (arith, length_digits (count_from 0 256), length_counted 0 256)

module _ (b : ℕ) (h : b < 256) where
  itself : get_or (count_from 0 256) b 0 ≡ b
  itself = counted 0 256 b h ∙ omega arith

  pub pair_high : get_or digit_pairs (2 * b) 0 ≡ digit (b / 16)
  unfolding digit_pairs
  pair_high = high_digit (count_from 0 256) b (omega (arith, length_counted 0 256)) ∙ ap (λ (n : ℕ). digit (n / 16)) itself

  pub pair_low : get_or digit_pairs (2 * b + 1) 0 ≡ digit (b % 16)
  unfolding digit_pairs
  pair_low = low_digit (count_from 0 256) b (omega (arith, length_counted 0 256)) ∙ ap (λ (n : ℕ). digit (n % 16)) itself
