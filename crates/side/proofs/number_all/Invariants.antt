-- The loop over the patterns that numbers their prefixes.
-- Assumes nothing.
use Rattle.side.specs.Steps.{Counted}
use Rattle.side.proofs.number_all.Given as goal

abbrev pub invariant-loop-i : goal.invariant-loop-i
invariant-loop-i l = Counted l.pats l.lens l.i l.initial.rows l.count l.rows
