-- The words of a new node are laid, and its parent leads to it.
-- Assumes nothing.
use native.Mathlib.Omega.{arith}
use lib.ListN.{length-set}
use Rattle.prefix_tree.proofs.Attaching.{laid}
use Rattle.prefix_tree.proofs.attach.Goals as goal

pub bounds-tree-to-2 : goal.bounds-tree-to-2
bounds-tree-to-2 c = simp length-set (omega arith)

pub bounds-tree-to-3 : goal.bounds-tree-to-3
bounds-tree-to-3 c = simp length-set (omega arith)

pub bounds-tree-to-4 : goal.bounds-tree-to-4
bounds-tree-to-4 c = simp length-set (omega arith)

pub bounds-tree-from-2 : goal.bounds-tree-from-2
bounds-tree-from-2 c = simp length-set (omega arith)

pub returns : goal.returns
returns c = let a = c.args in
    laid a.tree.now a.q a.n a.c a.state (omega arith) (omega arith)
