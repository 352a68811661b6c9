-- Numbering, own sets, then the states by length: in the end every row and set is finished.
-- Assumes nothing.
use Rattle.side.proofs.Filling as F
use Rattle.side.proofs.fill_side.Given as goal

abbrev pub invariant-loop-d : goal.invariant-loop-d
invariant-loop-d l = F.Filling l.pats l.lens l.n l.count l.initial.rows l.initial.sets l.rows l.sets l.d
