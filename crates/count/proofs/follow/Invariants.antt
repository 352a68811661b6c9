-- The loop over the symbols of a pattern.
-- Assumes nothing.
use Rattle.side.specs.Patterns.{pattern_at, patterns_of}
use Rattle.count.proofs.Following as F
use Rattle.count.proofs.follow.Given as goal

abbrev pub invariant-loop-m : goal.invariant-loop-m
invariant-loop-m l = F.Following (patterns_of l.pats l.lens l.i) (pattern_at l.pats l.lens l.i) l.q l.m
