-- The order of literal rules by an example: two classes of two letters, one in each context, give four literal rules, of which the left
-- context varies slowest.
-- Assumes nothing.
use mathlib.Core.Path.{◌≡◌, refl}
use mathlib.Core.List.{[], ◌∷◌}
use Rattle.rules.specs.Shape.{Production}
use Rattle.classes.specs.Classes.{Classes, no_classes}
use Rattle.classes.specs.Expansion.{within, under, expand}
use Rattle.classes.specs.Setting.{with_class}

-- classes 40 (letters 1, 5) and 41 (letters 2, 3)
abbrev pub two_classes : Classes
two_classes = with_class (with_class no_classes 64 (1 ∷ 5 ∷ [])) 65 (2 ∷ 3 ∷ [])

-- a letter and class 40 before, class 41 after
abbrev pub with_classes : Production
with_classes = record { left = 9 ∷ 64 ∷ []; target = 7 ∷ []; right = 65 ∷ []; phones = 30 ∷ [] }

pub four_literals : expand two_classes (under 12 with_classes ∷ [])
    ≡ under 12 (within with_classes (9 ∷ 1 ∷ []) (2 ∷ [])) ∷ under 12 (within with_classes (9 ∷ 1 ∷ []) (3 ∷ []))
    ∷ under 12 (within with_classes (9 ∷ 5 ∷ []) (2 ∷ [])) ∷ under 12 (within with_classes (9 ∷ 5 ∷ []) (3 ∷ [])) ∷ []
four_literals = refl

-- two symbols of one context: the one on the left varies slowest
pub in_one_context : expand two_classes (under 12 (within with_classes (64 ∷ 65 ∷ []) []) ∷ [])
    ≡ under 12 (within with_classes (1 ∷ 2 ∷ []) []) ∷ under 12 (within with_classes (1 ∷ 3 ∷ []) [])
    ∷ under 12 (within with_classes (5 ∷ 2 ∷ []) []) ∷ under 12 (within with_classes (5 ∷ 3 ∷ []) []) ∷ []
in_one_context = refl
