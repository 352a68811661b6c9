-- Numbers in bytes, high byte first.
-- Assumes nothing.
use Rattle.std.specs.Prelude.{ℕ, ◌+◌, ◌*◌, ◌/◌, ◌%◌, List, [], ◌∷◌, ◌++◌, get_or}

-- the number of the two bytes from `at` on
abbrev pub two : ℕ → List ℕ → ℕ
two at s = 256 * get_or s at 0 + get_or s (at + 1) 0

-- of four, and of eight
abbrev pub four : ℕ → List ℕ → ℕ
four at s = 256 * (256 * (256 * get_or s at 0 + get_or s (at + 1) 0) + get_or s (at + 2) 0) + get_or s (at + 3) 0

abbrev pub eight : ℕ → List ℕ → ℕ
eight at s = 4294967296 * four at s + four (at + 4) s

-- a number as two bytes, as four and as eight
abbrev pub bytes2 : ℕ → List ℕ
bytes2 n = n / 256 % 256 ∷ n % 256 ∷ []

abbrev pub bytes4 : ℕ → List ℕ
bytes4 n = bytes2 (n / 65536) ++ bytes2 n

abbrev pub bytes8 : ℕ → List ℕ
bytes8 n = bytes4 (n / 4294967296) ++ bytes4 n
