-- `patterns::put_choice_reversed` meets its contract: the loop from the run's end on.
-- Assumes nothing.
use Rattle.classes.specs.Masks.{classes_in}
use Rattle.patterns.proofs.Reversing.{Reversing}
use Rattle.patterns.proofs.Backwards.{Backwards}
use Rattle.patterns.proofs.put_choice_reversed.Given as goal

abbrev pub invariant-loop-k : goal.invariant-loop-k
invariant-loop-k l = Reversing (classes_in l.masks) l.run l.j l.initial.pats l.at l.pats l.q l.k-iterator.count × Backwards l.run l.k-iterator.iter.iter.rest.now l.k-iterator.count
