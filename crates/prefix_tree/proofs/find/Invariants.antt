-- The search along a chain of children.
-- Assumes nothing.
use lib.ListN.{length}
use Rattle.tables.proofs.Siblings as S
use Rattle.prefix_tree.specs.Tree.{next_of, symbol_of}
use Rattle.prefix_tree.proofs.find.Given as goal

abbrev pub invariant-loop-k : goal.invariant-loop-k
invariant-loop-k l = S.Seeking (length l.tree) (next_of l.tree) (symbol_of l.tree) l.s l.c l.k

abbrev pub decreases-loop-k : goal.decreases-loop-k
decreases-loop-k l = l.k
