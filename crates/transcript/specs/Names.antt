-- What `say` prints for the line of a name (document 01, "The six rules").
-- Assumes nothing.
use Rattle.std.specs.Prelude.{cond, ℕ, ◌-◌, List, Option, Some, None, eqb, length, get_or, take, drop, replicate}
use Rattle.exceptions.specs.Judging.{no_list}
use Rattle.frames.specs.Lines.{Parsed, sound_line}
use Rattle.frames.specs.Lines.Parsed.{Bad, Good}
use Rattle.tables.specs.Walk.{walk_said}
use Rattle.lines.specs.Printed.{refused_body, printed}
use Rattle.answer_lines.specs.Answers.{walked_line}

-- what a line asks for: the speech of a name, or nothing that can be spoken
pub data Asked : Type 0 where
  unsound : Asked
  name : List ℕ → Asked

-- the bytes between the first one and the checksum
abbrev pub letters_in : List ℕ → List ℕ
letters_in f = take (length f - 2) (drop 1 f)

-- a sound line that starts with 03
abbrev pub asked : Parsed → Asked
asked Bad = unsound
asked (Good f rest) = cond (eqb (get_or f 0 0) 3) (name (letters_in f)) unsound

-- each name is lent 256 phones and 64 numbers
unfoldable pub lent_phones : List ℕ
lent_phones = replicate 256 0

unfoldable pub lent_numbers : List ℕ
lent_numbers = replicate 64 0

-- the line of a name's walk; `say` has no list
unfoldable pub name_line : List ℕ → List ℕ → List ℕ → List ℕ → List ℕ
name_line image words sets letters = walked_line (walk_said image no_list words sets letters lent_phones lent_numbers)

abbrev pub answer_to : List ℕ → List ℕ → List ℕ → Asked → List ℕ
answer_to image words sets unsound = printed (refused_body 13 0)
answer_to image words sets (name letters) = name_line image words sets letters

-- what is printed for the line that s starts with
unfoldable pub name_answer : List ℕ → List ℕ → List ℕ → List ℕ → List ℕ
name_answer image words sets s = answer_to image words sets (asked (sound_line s))

-- ---- what the functions give on the way

-- a name over 64 letters is refused by its length, so that 65 of them tell as much as all
abbrev pub cut : Asked → Asked
cut unsound = unsound
cut (name letters) = name (take 65 letters)

-- what stands in a frame that was read, its letters ending before `end`, if it has a name
abbrev pub name_in : Option ℕ → List ℕ → Asked
name_in None frame = unsound
name_in (Some end) frame = name (take (end - 1) (drop 1 frame))
