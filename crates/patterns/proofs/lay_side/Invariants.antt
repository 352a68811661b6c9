-- The loop that lays the patterns of a side.
-- Assumes nothing.
use Rattle.patterns.proofs.Laying.{Laying}
use Rattle.patterns.proofs.lay_side.Given as goal

abbrev pub invariant-loop-i : goal.invariant-loop-i
invariant-loop-i l = Laying l.rules.bytes.now l.right l.initial.pats l.initial.lens l.pats l.lens l.i
