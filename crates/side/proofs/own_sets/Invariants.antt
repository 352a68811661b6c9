-- The loop that puts each place into the set of its pattern's state.
-- Assumes nothing.
use Rattle.side.proofs.Filling as F
use Rattle.side.proofs.own_sets.Given as goal

abbrev pub invariant-loop-i : goal.invariant-loop-i
invariant-loop-i l = F.Owning l.pats l.lens l.n l.count l.initial.sets l.sets l.i
