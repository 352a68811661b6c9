-- A number in bytes as the integers' methods give it.
-- Assumes nothing.
use Prim.Native.Nat.{ℕ, ◌/◌, ◌%◌}
use mathlib.Core.Path.{◌≡◌, refl, ap, ap₂, ◌∙◌}
use mathlib.Core.List.{◌∷◌, ◌++◌}
use native.Mathlib.Omega.{arith}
use Rattle.std.specs.Int.{w16, w32, w64, to_be_bytes, bytes_high_first}
use Rattle.numbers.specs.Numbers.{bytes2, bytes4, bytes8}

pub be_two : (n : ℕ) → to_be_bytes w16 n ≡ bytes2 n
be_two n = refl

pub be_four : (n : ℕ) → to_be_bytes w32 n ≡ bytes4 n
be_four n =
    let a : n / 16777216 % 256 ≡ n / 65536 / 256 % 256 = omega arith in
    ap (λ (x : ℕ). x ∷ bytes_high_first 3 n) a

-- the eight bytes are those of the high half and of the low one
pub be_eight : (n : ℕ) → to_be_bytes w64 n ≡ bytes8 n
be_eight n =
    let a : n / 72057594037927936 % 256 ≡ n / 4294967296 / 16777216 % 256 = omega arith in
    let b : n / 281474976710656 % 256 ≡ n / 4294967296 / 65536 % 256 = omega arith in
    let c : n / 1099511627776 % 256 ≡ n / 4294967296 / 256 % 256 = omega arith in
    ap₂ (λ (x y : ℕ). x ∷ y ∷ n / 1099511627776 % 256 ∷ n / 4294967296 % 256 ∷ bytes_high_first 4 n) a b
    ∙ (ap (λ (x : ℕ). n / 4294967296 / 16777216 % 256 ∷ n / 4294967296 / 65536 % 256 ∷ x ∷ n / 4294967296 % 256 ∷ bytes_high_first 4 n) c
    ∙ ap₂ ◌++◌ (be_four (n / 4294967296)) (be_four n))
