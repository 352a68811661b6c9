-- Rules without classes: each is its own and only literal rule, whatever classes are defined.
-- Assumes nothing.
use Prim.Native.Nat.{ℕ, ◌<◌}
use mathlib.Core.Path.{◌≡◌, refl, sym, ap, ◌∙◌}
use mathlib.Core.List.{List, [], ◌∷◌}
use borrow.Author.Tests.{lt-ltb}
use lib.ListN.{length}
use Rattle.rules.specs.Limits.{first_class}
use Rattle.rules.specs.Shape.{Production, Entry}
use Rattle.classes.specs.Classes.{Classes}
use Rattle.classes.specs.Expansion.{choices, literals, expand, literal_total}
use Rattle.classes.proofs.Counts.{literal-total}

-- letters and boundaries only
abbrev pub Literal : List ℕ → Type 0
Literal [] = Unit {0}
Literal (x ∷ s) = (x < first_class) × Literal s

pub choices_alone : (k : Classes) (s : List ℕ) → Literal s → choices k s ≡ s ∷ []
choices_alone k [] h = refl
choices_alone k (x ∷ s) h = rw (lt-ltb x 64 h.0, choices_alone k s h.1)

pub literals_alone : (k : Classes) (r : Production) → Literal r.left → Literal r.right → literals k r ≡ r ∷ []
literals_alone k r h g = rw (choices_alone k r.left h, choices_alone k r.right g)

abbrev pub AllLiteral : List Entry → Type 0
AllLiteral [] = Unit {0}
AllLiteral (e ∷ l) = (Literal e.rule.left) × ((Literal e.rule.right) × AllLiteral l)

-- a list without classes is its own expansion
pub expand_alone : (k : Classes) (l : List Entry) → AllLiteral l → expand k l ≡ l
expand_alone k [] h = refl
expand_alone k (e ∷ l) h = rw (literals_alone k e.rule h.0 h.1.0, expand_alone k l h.1.1)

-- and has as many literal rules as rules
pub total_alone : (k : Classes) (l : List Entry) → AllLiteral l → literal_total k l ≡ length l
total_alone k l h = sym (literal-total k l) ∙ ap length (expand_alone k l h)
