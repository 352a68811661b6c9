-- `literals::match_choice` meets its contract. The loop's invariant: from i on the letters are those of choice j, and q is left of j.
-- Assumes nothing.
use Rattle.classes.specs.Masks.{classes_in}
use Rattle.literals.proofs.Matching.{Matching}
use Rattle.literals.proofs.match_choice.Given as goal

abbrev pub invariant-loop-i : goal.invariant-loop-i
invariant-loop-i l = Matching (classes_in l.masks) l.run l.j l.frame l.to l.q l.i
