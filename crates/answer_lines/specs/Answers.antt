-- The lines that `say` prints (document 01, "The six rules"): 04, steps (2), phone count (2), phones, rule count (1), numbers (2 each); or
-- 05, refusal number, place (4). Fields are high byte first; each line is a frame with its checksum.
-- Assumes nothing.
use Rattle.std.specs.Prelude.{ℕ, ◌%◌, ◌≤◌, List, [], ◌∷◌, ◌++◌, length, take}
use Rattle.numbers.specs.Numbers.{bytes2}
use Rattle.lines.specs.Printed.{twos, refused_body, printed}
use Rattle.speech.specs.Speech.{Told, spoken, refused}
use Rattle.tables.specs.Walk.{Walked}

abbrev pub spoken_front : ℕ → ℕ → List ℕ
spoken_front steps count = 4 ∷ bytes2 steps ++ bytes2 count

unfoldable pub spoken_body : ℕ → List ℕ → List ℕ → List ℕ
spoken_body steps phones numbers = ((spoken_front steps (length phones) ++ phones) ++ (length numbers % 256 ∷ [])) ++ twos numbers

-- no line that is printed for a name has more bytes, its 0A included
abbrev pub longest_line : ℕ
longest_line = 783

-- what is told, with the steps and the lent phones and numbers: of these as many as were given; the contested letters are not printed
abbrev pub told_body : Told → ℕ → List ℕ → List ℕ → List ℕ
told_body (spoken p n c) steps phones numbers = spoken_body steps (take p phones) (take n numbers)
told_body (refused number place) steps phones numbers = refused_body number place

-- the line of a walk
abbrev pub walked_line : Walked → List ℕ
walked_line w = printed (told_body w.said.told w.steps w.said.phones w.said.numbers)

-- as many phones and numbers as are told are there, and no more letters were contested than rules applied
abbrev pub ToldWithin : Told → ℕ → ℕ → Type 0
ToldWithin (spoken p n c) phones numbers = (p ≤ phones) × (n ≤ numbers) × (c ≤ n)
ToldWithin (refused number place) phones numbers = Unit {0}
