-- The literal rules of a ruleset in memory, by their places.
-- Assumes nothing.
use Rattle.std.specs.Prelude.{ℕ, List, get_or}
use Rattle.rules.specs.Shape.{Entry}
use Rattle.image.specs.State.{no_entry}
use Rattle.image.specs.Image.{literals_of}

-- the literal rule at a place, under the number of its rule
abbrev pub literal_entry : List ℕ → ℕ → Entry
literal_entry image p = get_or (literals_of image) p no_entry
