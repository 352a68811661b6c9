-- The loop of the shared left pass.
-- Assumes nothing.
use Rattle.prefix_tree.proofs.Going as G
use Rattle.prefix_tree.proofs.shared_pass.Given as goal

abbrev pub invariant-loop-i : goal.invariant-loop-i
invariant-loop-i l = G.Going l.words l.rows l.count l.frame l.initial.tree l.nodes l.steps l.initial.left l.tree l.left l.p l.i
