-- What the commands that reach into the monitor's memory leave there.
-- Assumes nothing.
use Rattle.std.specs.Prelude.{ℕ, ◌+◌, ◌/◌, ◌≤◌, Bool, cond, ◌&&◌, List, [], ◌∷◌, ◌++◌, length, get_or, take, drop, set, leb, ltb, eqb}
use Rattle.numbers.specs.Numbers.{two, bytes4}
use Rattle.rules.specs.Limits.{max_rules}
use Rattle.image.specs.Image.{image_size, count_of, last_of, edits_of, with_head, with_number, cleared}
use Rattle.frames.specs.Output.{fields}
use Rattle.lines.specs.Printed.{twos, printed}
use Rattle.file_format.specs.Layout.{longest_file}
use Rattle.command_parts.specs.Fields.{four, eight}
use Rattle.command_parts.specs.Answers.{Effect, leaving, sized_to, done_line, malformed_line}

-- the number in the slot of a place, overwritten; a place above 511 is none
abbrev pub renumbered : ℕ → ℕ → List ℕ → List ℕ
renumbered place number image = cond (ltb place max_rules) (with_number place number image) image

-- 1E, place (2), number (2), count (2), last (2): overwritten with no check; the edit count stays
abbrev pub forced : List ℕ → List ℕ → List ℕ
forced f image = with_head (two 5 f) (two 7 f) (edits_of image) (renumbered (two 1 f) (two 3 f) image)

unfoldable pub forced_by : List ℕ → List ℕ → Effect
forced_by f image = sized_to (eqb (length f) 9) (leaving done_line (forced f image)) image

-- 2A, edit count (4): overwritten with no check; rule count and last stay
abbrev pub recounted : List ℕ → List ℕ → List ℕ
recounted f image = with_head (count_of image) (last_of image) (four 1 f) image

unfoldable pub recounted_by : List ℕ → List ℕ → Effect
recounted_by f image = sized_to (eqb (length f) 5) (leaving done_line (recounted f image)) image

-- 1F: the empty ruleset again, without classes
unfoldable pub cleared_by : List ℕ → List ℕ → Effect
cleared_by f image = sized_to (eqb (length f) 1) (leaving done_line (cleared image).image) image

-- one element stored; an index outside the memory is malformed
abbrev pub stored_at : ℕ → ℕ → List ℕ → Effect
stored_at i v xs = sized_to (ltb i (length xs)) (leaving done_line (set xs i v)) xs

-- 18, index (4), value (2): store one word
unfoldable pub stored_word : List ℕ → List ℕ → Effect
stored_word f words = sized_to (eqb (length f) 7) (stored_at (four 1 f) (two 5 f) words) words

-- 19, index (4), value (8): store one set word
unfoldable pub stored_set : List ℕ → List ℕ → Effect
stored_set f sets = sized_to (eqb (length f) 13) (stored_at (four 1 f) (eight 5 f) sets) sets

-- a set word as eight bytes, high first
abbrev pub bytes8 : ℕ → List ℕ
bytes8 w = bytes4 (w / 4294967296) ++ bytes4 w

abbrev pub eights : List ℕ → List ℕ
eights = fields bytes8

-- 0A and the bytes that are asked for, where they are there
abbrev pub shown_if : Bool → List ℕ → List ℕ
shown_if b bytes = cond b (printed (10 ∷ bytes)) malformed_line

-- index (4), count (1): so many elements from there on are all among n
abbrev pub inside : List ℕ → ℕ → Bool
inside f n = eqb (length f) 6 && leb (four 1 f + get_or f 5 0) n

-- those elements, shown
abbrev pub shown : (List ℕ → List ℕ) → List ℕ → List ℕ → List ℕ
shown bytes f xs = shown_if (inside f (length xs)) (bytes (take (get_or f 5 0) (drop (four 1 f) xs)))

-- 1A: show words, 2 bytes each
unfoldable pub shown_words : List ℕ → List ℕ → List ℕ
shown_words = shown twos

-- 1B: show set words, 8 bytes each
unfoldable pub shown_sets : List ℕ → List ℕ → List ℕ
shown_sets = shown eights

-- 1C: show the phone bytes
unfoldable pub shown_phones : List ℕ → List ℕ → List ℕ
shown_phones f phones = shown_if (eqb (length f) 1) phones

-- 1D: show the numbers, 2 bytes each
unfoldable pub shown_numbers : List ℕ → List ℕ → List ℕ
shown_numbers f numbers = shown_if (eqb (length f) 1) (twos numbers)

-- 27: show the contested letters of the last name spoken, 1 byte
unfoldable pub shown_contested : List ℕ → ℕ → List ℕ
shown_contested f contested = shown_if (eqb (length f) 1) (contested ∷ [])

-- 29: show the edit count, 4 bytes
unfoldable pub shown_edits : List ℕ → List ℕ → List ℕ
shown_edits f image = shown_if (eqb (length f) 1) (bytes4 (edits_of image))

-- what the monitor holds is large enough: a ruleset's image, phones and numbers that an answer has room for, and the longest answer's bytes
pub record Held (image phones numbers out : ℕ) : Type 0 where
  pub ruled : image_size ≤ image
  pub spoken : phones ≤ 256
  pub numbered : numbers ≤ 64
  pub room : longest_file ≤ out
