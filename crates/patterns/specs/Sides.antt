-- The two sides of a ruleset's tables, and the patterns of one as they are laid out for the row filler: those of the literal rules.
-- Assumes nothing.
use Rattle.std.specs.Prelude.{◌≡◌, ℕ, ◌*◌, ◌≤◌, ◌<◌, Bool, true, false, List, map, length, get_or}
use Rattle.rules.specs.Limits.{max_rules, max_pattern}
use Rattle.rules.specs.Shape.{Entry}
use Rattle.image.specs.Image.{literals_of, total_of}
use Rattle.fitting.specs.Fitting.{Str}
use Rattle.tables.specs.Words.{row_size}
use Rattle.tables.specs.Tables.{Table, table_of, left_pattern, right_pattern}
use Rattle.side.specs.Patterns.{patterns_of, Patterns}
use Rattle.side.specs.Wrote.{Wrote}
use Rattle.literals.specs.Places.{literal_entry}

-- the right pattern of a rule, or the left
abbrev pub side_of : Bool → Entry → Str
side_of true = right_pattern
side_of false = left_pattern

-- the pattern of the literal rule at a place
abbrev pub pattern_in : List ℕ → Bool → ℕ → Str
pattern_in image right place = side_of right (literal_entry image place)

abbrev pub side_table : List ℕ → Bool → Table
side_table image right = table_of (side_of right) (literals_of image)

-- n symbols, which are s, are laid from a on
abbrev pub Put : List ℕ → ℕ → Str → ℕ → List ℕ → Type 0
Put xs a s n ys = (n ≡ length s) × Wrote xs a n (λ k. get_or s k 0) ys

-- Scratch memory for the patterns of one side: whatever symbols it holds.
pub record Scratch (ps ls : List ℕ) : Type 0 where
  pub room : max_pattern * max_rules ≤ length ps
  pub lens : max_rules ≤ length ls
  pub low : (k : ℕ) → get_or ps k 0 < row_size

-- the patterns of a side lie in it
pub record Laid (image : List ℕ) (right : Bool) (ps ls : List ℕ) : Type 0 where
  pub scratch : Scratch ps ls
  pub ok : Patterns ps ls (total_of image)
  pub are : patterns_of ps ls (total_of image) ≡ map (side_of right) (literals_of image)
