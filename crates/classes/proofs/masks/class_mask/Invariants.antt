-- `classes::masks::class_mask` meets its contract. The loop's invariant: i letters are in the mask, and the rest decides.
-- Assumes nothing.
use Rattle.classes.proofs.Shapes.{Taken}
use Rattle.classes.proofs.masks.class_mask.Given as goal

abbrev pub invariant-loop-c : goal.invariant-loop-c
invariant-loop-c l = Taken l.letters l.low l.mask l.c-index
