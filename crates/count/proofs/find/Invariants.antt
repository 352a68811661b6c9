-- The search in a chain: its numbers fall, and the rest of the chain gives what the whole does.
-- Assumes nothing.
use lib.ListN.{length}
use Rattle.tables.proofs.Siblings as S
use Rattle.count.specs.Chains.{at}
use Rattle.count.proofs.find.Given as goal

abbrev pub invariant-loop-k : goal.invariant-loop-k
invariant-loop-k l = S.Seeking (length l.next) (at l.next) (at l.key) l.s l.c l.k

abbrev pub decreases-loop-k : goal.decreases-loop-k
decreases-loop-k l = l.k
