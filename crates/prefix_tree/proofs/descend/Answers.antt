-- A step down the tree: the chain of children is searched, and where it has no child an entry is looked up.
-- Assumes nothing.
use mathlib.Core.Path.{ap, ◌∙◌}
use Prim.Native.Nat.{ℕ}
use native.Mathlib.Omega.{arith}
use lib.ListN.{length}
use Rattle.tables.specs.Siblings.{seek}
use Rattle.prefix_tree.specs.Tree.{next_of, symbol_of}
use Rattle.prefix_tree.proofs.Growing.{chain_of}
use Rattle.prefix_tree.proofs.Stepping as S
use Rattle.prefix_tree.proofs.descend.Goals as goal

pub find-child-requires : goal.find-child-requires
find-child-requires c = let w = c.from-first.ensures in
    let g = chain_of c.args.tree.now c.args.p.nodes c.args.count c.requires.2 c.args.p.node c.requires.3 in
    (omega (arith, g.0, w), λ k p l. g.1 k p (omega (arith, w)))

pub returns-then-child-ne0 : goal.returns-then-child-ne0
returns-then-child-ne0 c = let a = c.args in
    let e = c.find-child.ensures ∙ ap (λ (s : ℕ). seek (length a.tree.now) (next_of a.tree.now) (symbol_of a.tree.now) s a.c) c.from-first.ensures in
    S.there a.words.now a.rows a.count a.tree.now a.p a.c _ e (omega (arith, c.if-child-ne0.true))

pub look_up-next-requires : goal.look_up-next-requires
look_up-next-requires c = let g = c.requires.2.small c.args.p.node c.requires.3 in
    (omega (arith, c.requires.0, c.requires.1), c.requires.5)

pub returns-then-count-from : goal.returns-then-count-from
returns-then-count-from c = let a = c.args in
    let e = c.find-child.ensures ∙ ap (λ (s : ℕ). seek (length a.tree.now) (next_of a.tree.now) (symbol_of a.tree.now) s a.c) c.from-first.ensures in
    let n = c.look_up-next.ensures.next in
    S.out a.words.now a.rows a.count a.tree.now a.p a.c _ e (omega (arith, c.if-child-ne0.false)) (omega (arith, n, c.if-count-from.true, c.from.ensures))

pub returns : goal.returns
returns c = let a = c.args in
    let e = c.find-child.ensures ∙ ap (λ (s : ℕ). seek (length a.tree.now) (next_of a.tree.now) (symbol_of a.tree.now) s a.c) c.from-first.ensures in
    let n = c.look_up-next.ensures.next in
    S.new a.words.now a.rows a.count a.tree.now a.p a.c _ e (omega (arith, c.if-child-ne0.false)) (omega (arith, n, c.if-count-from.false, c.from.ensures)) _ c.look_up-next.ensures.more _
    (rw (← n) c.attach.ensures)
