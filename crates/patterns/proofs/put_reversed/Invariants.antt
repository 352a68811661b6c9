-- The loop that stores a list, the last element first.
-- Assumes nothing.
use mathlib.Core.List.{reverse}
use lib.ListN.{get_or}
use Rattle.side.specs.Wrote.{Wrote}
use Rattle.patterns.proofs.Backwards.{Backwards}
use Rattle.patterns.proofs.put_reversed.Given as goal

abbrev pub invariant-loop-k : goal.invariant-loop-k
invariant-loop-k l = Wrote l.initial.pats l.at l.k-iterator.count (λ j. get_or (reverse l.s) j 0) l.pats × Backwards l.s l.k-iterator.iter.iter.rest.now l.k-iterator.count
