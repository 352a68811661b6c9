-- `side::complete_level` meets its contract: a loop over the patterns completes the states of one length.
-- Assumes nothing.
use Rattle.side.proofs.Filling as F
use Rattle.side.proofs.complete_level.Given as goal

abbrev pub invariant-loop-i : goal.invariant-loop-i
invariant-loop-i l = F.Rising l.pats l.lens l.n l.count l.d l.initial.rows l.initial.sets l.rows l.sets l.top l.i
