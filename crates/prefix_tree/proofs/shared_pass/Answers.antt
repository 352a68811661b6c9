-- The loop of the shared left pass.
-- Assumes nothing.
use mathlib.Core.Path.{refl}
use native.Mathlib.Omega.{arith}
use Rattle.prefix_tree.proofs.Going as G
use Rattle.prefix_tree.proofs.shared_pass.Goals as goal

pub loop-i-init : goal.loop-i-init
loop-i-init c = G.go-begin _ _ _ _ _ _ _ _ c.requires.5

pub descend-requires : goal.descend-requires
descend-requires c = let k = c.loop-i in
    let m = G.may-descend k.invariant (omega arith) c.requires.2 c.requires.3 c.requires.6 c.requires.7 in
    (c.requires.0, m.0, m.1, m.2, m.3, m.4)

pub returns-in_err-p : goal.returns-in_err-p
returns-in_err-p c = let k = c.loop-i in
    rw c.from_residual.ensures (G.go-bad k.invariant (omega arith) c.requires.2 c.requires.3 c.requires.6 c.requires.7 c.in_err-p.ensures)

pub overflow_mul-left : goal.overflow_mul-left
overflow_mul-left c = let k = c.loop-i in
    let m = G.node_in k.invariant (omega arith) c.requires.2 c.requires.3 c.requires.6 c.requires.7 c.in_ok-p.ensures in
    omega (arith, m.0, m.2)

pub overflow_add-left : goal.overflow_add-left
overflow_add-left c = let k = c.loop-i in
    let m = G.node_in k.invariant (omega arith) c.requires.2 c.requires.3 c.requires.6 c.requires.7 c.in_ok-p.ensures in
    omega (arith, m.0, m.2)

pub offset_bounds-tree-p : goal.offset_bounds-tree-p
offset_bounds-tree-p c = let k = c.loop-i in
    let m = G.node_in k.invariant (omega arith) c.requires.2 c.requires.3 c.requires.6 c.requires.7 c.in_ok-p.ensures in
    omega (arith, m.0, m.2)

pub bounds-tree-p : goal.bounds-tree-p
bounds-tree-p c = let k = c.loop-i in
    (G.node_in k.invariant (omega arith) c.requires.2 c.requires.3 c.requires.6 c.requires.7 c.in_ok-p.ensures).0

pub bounds-left-i : goal.bounds-left-i
bounds-left-i c = let k = c.loop-i in
    omega (arith, k.invariant.left-sized, c.requires.4)

pub loop-i-preserved : goal.loop-i-preserved
loop-i-preserved c = let k = c.loop-i in
    G.go-next k.invariant (omega arith) c.requires.2 c.requires.3 c.requires.6 c.requires.7 c.in_ok-p.ensures c.requires.4 refl

pub returns : goal.returns
returns c = let k = c.loop-i in
    G.go-end k.invariant c.requires.1 (omega arith)
