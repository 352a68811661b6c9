-- The literal rule at a place, by what the ruleset's memory has for it (document 02, request 5).
-- Assumes nothing.
use Rattle.std.specs.Prelude.{ℕ, ◌+◌, ◌*◌, ◌<◌, ◌≡◌, List, get_or}
use Rattle.numbers.specs.Numbers.{two}
use Rattle.classes.specs.Expansion.{literal_count, under}
use Rattle.classes.specs.Ordinal.{literal_at, Origin}
use Rattle.image.specs.State.{no_entry}
use Rattle.image.specs.Image.{origin_size, table_start, count_of, classes_of, entry_at, literals_of}

-- the entry of the table from byte `at` on says o
pub record EntryOf (s : List ℕ) (at : ℕ) (o : Origin) : Type 0 where
  pub place : two at s ≡ o.place
  pub ordinal : two (at + 2) s ≡ o.ordinal

-- the literal rule at place p, and where the table says that it comes from
pub record LiteralAt (d : List ℕ) (p : ℕ) (o : Origin) : Type 0 where
  pub inside : o.place < count_of d
  pub below : o.ordinal < literal_count (classes_of d) (entry_at d o.place).rule
  pub literal : get_or (literals_of d) p no_entry ≡ under (entry_at d o.place).number (literal_at (classes_of d) (entry_at d o.place).rule o.ordinal)
  pub entry : EntryOf d (table_start + origin_size * p) o
