-- `classes::masks::letter_in` meets its contract. The loop's invariant: the letters of x are those of the mask less the i lowest.
-- Assumes nothing.
use mathlib.Core.Path.{◌≡◌}
use lib.ListN.{drop}
use Rattle.classes.specs.Masks.{letters_in}
use Rattle.classes.proofs.masks.letter_in.Given as goal

abbrev pub invariant-loop : goal.invariant-loop
invariant-loop l = letters_in l.x ≡ drop l.counter (letters_in l.mask)
