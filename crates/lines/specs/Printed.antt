-- Lines that are printed for answers (document 01, "The six rules"): each is a frame with its checksum, its fields high byte first. A refusal is 05,
-- its number, its place (4).
-- Assumes nothing.
use Rattle.std.specs.Prelude.{ℕ, List, ◌∷◌}
use Rattle.numbers.specs.Numbers.{bytes2, bytes4}
use Rattle.rules.specs.Refusals.{refusal_number, refusal_place}
use Rattle.rules.specs.declared.Refusal.{Refusal}
use Rattle.frames.specs.Lines.{line_of, framed}
use Rattle.frames.specs.Output.{fields}

-- rule numbers, two bytes each
abbrev pub twos : List ℕ → List ℕ
twos = fields bytes2

abbrev pub refused_body : ℕ → ℕ → List ℕ
refused_body number place = 5 ∷ number ∷ bytes4 place

-- the line of a body
unfoldable pub printed : List ℕ → List ℕ
printed body = line_of (framed body)

-- the line of a refusal
abbrev pub refusal_line : Refusal → List ℕ
refusal_line x = printed (refused_body (refusal_number x) (refusal_place x))
