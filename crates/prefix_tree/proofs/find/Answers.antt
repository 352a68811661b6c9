-- The search along a chain of children.
-- Assumes nothing.
use mathlib.Core.Path.{sym, subst}
use native.Mathlib.Omega.{arith}
use Rattle.tables.proofs.Siblings as S
use Rattle.prefix_tree.proofs.find.Goals as goal

pub loop-k-init : goal.loop-k-init
loop-k-init c = S.begin _ _ _ _ _

pub returns-then-tree-at : goal.returns-then-tree-at
returns-then-tree-at c = S.hit _ _ _ _ _ c.requires.1 (omega (arith, c.requires.0)) _ c.loop-k.invariant (omega arith) c.if-tree-at.true

pub loop-k-smaller : goal.loop-k-smaller
loop-k-smaller c = let k = c.loop-k in
    let g = c.requires.1 k.k (omega arith) k.invariant.below in
    omega (arith, c.from-k.ensures)

pub loop-k-preserved : goal.loop-k-preserved
loop-k-preserved c = let k = c.loop-k in
    subst (S.Seeking _ _ _ _ _) (sym c.from-k.ensures)
    (S.miss _ _ _ _ _ c.requires.1 (omega (arith, c.requires.0)) _ k.invariant (omega arith) c.if-tree-at.false)

pub returns : goal.returns
returns c = S.ended _ _ _ _ _ c.requires.1 (omega (arith, c.requires.0)) _ c.loop-k.invariant (omega arith)
