-- A line of document 01's files: a frame of bytes in upper-case hexadecimal, ended by 0A. The last byte of a frame, its checksum,
-- makes all its bytes add to zero modulo 256.
-- Assumes nothing.
use Rattle.std.specs.Prelude.{ℕ, ◌+◌, ◌-◌, ◌*◌, ◌/◌, ◌%◌, Bool, true, false, cond, List, [], ◌∷◌, ◌++◌, length, drop, ◌==◌, nat_le, nat_lt, Option, Some, None}
use Rattle.frames.specs.declared.Line.{Line}

-- the digit of a number below 16
unfoldable pub digit : ℕ → ℕ
digit d = cond (nat_lt d 10) (48 + d) (55 + d)

-- the number of a digit, 16 for what is none
unfoldable pub value : ℕ → ℕ
value a = cond (nat_le 48 a) (cond (nat_le a 57) (a - 48) (cond (nat_le 65 a) (cond (nat_le a 70) (a - 55) 16) 16)) 16

-- two digits a byte
abbrev pub digits : List ℕ → List ℕ
digits [] = []
digits (b ∷ f) = digit (b / 16) ∷ digit (b % 16) ∷ digits f

-- the line of a frame
abbrev pub line_of : List ℕ → List ℕ
line_of f = digits f ++ (10 ∷ [])

abbrev pub total : List ℕ → ℕ
total [] = 0
total (b ∷ f) = b + total f

-- the byte that makes a sum zero
abbrev pub complement : ℕ → ℕ
complement sum = (256 - sum) % 256

-- the checksum of a frame's body
unfoldable pub sum_byte : List ℕ → ℕ
sum_byte body = complement (total body % 256)

-- the frame of a body
abbrev pub framed : List ℕ → List ℕ
framed body = body ++ (sum_byte body ∷ [])

-- what stands at a line's start: the bytes of the line, and what follows it; or no ended line of whole bytes
pub data Parsed : Type 0 where
  Bad : Parsed
  Good : List ℕ → List ℕ → Parsed

abbrev pub after : ℕ → Parsed → Parsed
after b Bad = Bad
after b (Good f rest) = Good (b ∷ f) rest

abbrev pub guard : Bool → Parsed → Parsed
guard true l = l
guard false l = Bad

abbrev pub read_line : List ℕ → Parsed
read_line [] = Bad
read_line (a ∷ []) = cond (a == 10) (Good [] []) Bad
read_line (a ∷ b ∷ s) =
    cond (a == 10) (Good [] (b ∷ s)) (guard (nat_lt (value a) 16) (guard (nat_lt (value b) 16) (after (16 * value a + value b) (read_line s))))

-- a sound frame has 2 bytes or more, and they add to zero
abbrev pub checked : Parsed → Parsed
checked Bad = Bad
checked (Good f rest) = guard (nat_le 2 (length f)) (guard (total f % 256 == 0) (Good f rest))

unfoldable pub sound_line : List ℕ → Parsed
sound_line s = checked (read_line s)

-- ---- what the functions give

-- the byte of two digits at the front of a list
abbrev pub pair_of : List ℕ → Option ℕ
pair_of [] = None
pair_of (a ∷ []) = None
pair_of (a ∷ b ∷ s) = cond (nat_lt (value a) 16) (cond (nat_lt (value b) 16) (Some (16 * value a + value b)) None) None

-- the bytes from a line's start on, up to its end or to the first fault
unfoldable pub decoded : List ℕ → List ℕ
decoded [] = []
decoded (a ∷ []) = []
decoded (a ∷ b ∷ s) =
    cond (a == 10) [] (cond (nat_lt (value a) 16) (cond (nat_lt (value b) 16) ((16 * value a + value b) ∷ decoded s) []) [])

-- a line as it is reported, in a text of len bytes: where the next line starts, and how many bytes its frame has
abbrev pub report : ℕ → Parsed → Option Line
report len Bad = None
report len (Good f rest) = Some (record { next = len - length rest; len = length f })

-- what follows the first 0A
abbrev pub past_line : List ℕ → List ℕ
past_line [] = []
past_line (a ∷ s) = cond (a == 10) s (past_line s)

-- where the line after the one at `at` starts; the length where there is none
unfoldable pub line_after : List ℕ → ℕ → ℕ
line_after text at = length text - length (past_line (drop at text))
