-- The edit count is how many additions, drops and moves were accepted (document 02, request 6); where there were none, no literal rule has changed.
-- Assumes nothing.
use Prim.Native.Nat.{◌+◌}
use mathlib.Core.Path.{◌≡◌, refl, ◌∙◌}
use mathlib.Core.List.{List, [], ◌∷◌}
use native.Mathlib.Omega.{arith}
use Rattle.rules.specs.Refusals.{Reply, accepted, declined}
use Rattle.rules.specs.Shape.{Entry}
use Rattle.classes.specs.Expansion.{expand}
use Rattle.classes.proofs.Setting.{expand_kept}
use Rattle.image.specs.State.{Ledger, rules_of}
use Rattle.edits.specs.Ledger.{Edit, judged, after, after_by, after_all, counted_by, counted}
use Rattle.edits.specs.Ledger.Edit.{Add, Drop, Move, SetClass}
use Rattle.edits.proofs.Applied.{can_set}

counted_one : (g : Ledger) (a : Reply) (e : Edit) → (after_by a g e).edits ≡ g.edits + counted_by a e
counted_one g accepted (Add r p) = refl
counted_one g accepted (Drop n) = refl
counted_one g accepted (Move n p) = refl
counted_one g accepted (SetClass c l) = omega arith
counted_one g (declined x y) e = omega arith

pub counted_all : (es : List Edit) (g : Ledger) → (after_all g es).edits ≡ g.edits + counted g es
counted_all [] g = omega arith
counted_all (e ∷ es) g = omega (arith, counted_all es (after g e), counted_one g (judged g e) e)

-- the literal rules of a state
abbrev pub literals_in : Ledger → List Entry
literals_in g = expand g.classes (rules_of g)

-- an edit that is not counted: a refused one, or a class set that no rule uses
uncounted_one : (g : Ledger) (e : Edit) (a : Reply) → judged g e ≡ a → counted_by a e ≡ 0 → literals_in (after_by a g e) ≡ literals_in g
uncounted_one g (Add r p) accepted j h = absurd (omega (arith, h))
uncounted_one g (Drop n) accepted j h = absurd (omega (arith, h))
uncounted_one g (Move n p) accepted j h = absurd (omega (arith, h))
uncounted_one g (SetClass c l) accepted j h = expand_kept g.classes c l (rules_of g) (can_set g c l j).unused
uncounted_one g e (declined x y) j h = refl

pub uncounted_all : (es : List Edit) (g : Ledger) → counted g es ≡ 0 → literals_in (after_all g es) ≡ literals_in g
uncounted_all [] g h = refl
uncounted_all (e ∷ es) g h =
    uncounted_all es (after g e) (omega (arith, h)) ∙ uncounted_one g e (judged g e) refl (omega (arith, h))
