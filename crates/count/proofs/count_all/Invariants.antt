-- The loop over the patterns, from the empty string alone.
-- Assumes nothing.
use Rattle.count.specs.Tree.{Counted}
use Rattle.count.proofs.count_all.Given as goal

abbrev pub invariant-loop-i : goal.invariant-loop-i
invariant-loop-i l = Counted l.pats l.lens l.i l.initial.first l.initial.next l.initial.key l.count l.first l.next l.key
