-- What the search for the first rule that fits comes to.
-- Assumes nothing.
use Rattle.std.specs.Prelude.{ℕ, ◌<◌, ◌≤◌, ◌≡◌, List, Option, Some, None}
use Rattle.image.specs.Image.{count_of, entries_of, entry_at, classes_of}
use Rattle.fitting.specs.Fitting.{Str}
use Rattle.fitting.specs.Reading.{apply, Choice, chosen, nothing, first_fit}
use Rattle.fitting.specs.declared.Fit.{Fit}

-- the choice at a letter, by the place of the rule
abbrev pub choice_of : List ℕ → Option Fit → Choice
choice_of image (Some x) = chosen (apply x.fitting (entry_at image x.place))
choice_of image None = nothing

-- what the search for the first rule that fits at i of a frame gives
pub record FitAt (image : List ℕ) (f : Str) (i : ℕ) (r : Option Fit) : Type 0 where
  pub choice : first_fit (classes_of image) (entries_of image) f i ≡ choice_of image r
  pub inside : (x : Fit) → r ≡ Some x → (x.place < count_of image) × (x.fitting ≤ count_of image)
