-- The names of a sheet are judged in turn.
-- Assumes nothing.
use mathlib.Core.Path.{sym, ◌∙◌}
use native.Mathlib.Omega.{arith}
use Rattle.std.proofs.lemmas.Result.{err_from_is_err_and}
use Rattle.many_names.proofs.Names.{next-count}
use Rattle.sheet_judging.proofs.Progress as P
use Rattle.sheet_judging.proofs.judge_sheet.Goals as goal

pub loop-tree-init : goal.loop-tree-init
loop-tree-init c = let a = c.args in
    (P.judged-begin a.compiled.now.words.now a.compiled.now.sets.now a.compiled.now.left_states a.compiled.now.right_states a.fit a.image.now a.list.now a.sheet.now a.limit a.tree.now a.ends.now a.starts.now a.kept.now c.requires.3 (λ e. (c.requires.0.facts e).left) (omega (arith, c.requires.4)), c.requires.9)

pub has_next-requires : goal.has_next-requires
has_next-requires c = c.loop-tree.invariant.0.at_in

pub judge_next-requires : goal.judge_next-requires
judge_next-requires c = let k = c.loop-tree in
    let q = P.may-judge k.invariant.0 (sym c.has_next.ensures ∙ c.loop-tree-test.true) c.requires.6 c.requires.4 c.requires.5 c.requires.7 c.requires.8 in
    (c.requires.0, c.requires.1, c.requires.2, q.0, P.grown-now k.invariant.0, q.1, q.2, q.3, q.4, q.5, q.6, q.7, k.invariant.1)

pub shape_of-tree-in_err-p : goal.shape_of-tree-in_err-p
shape_of-tree-in_err-p c = let k = c.loop-tree in
    let h = sym c.has_next.ensures ∙ c.loop-tree-test.true in
    (P.lengths-kept k.invariant.0 h c.judge_next.ensures).0

pub shape_of-ends-in_err-p : goal.shape_of-ends-in_err-p
shape_of-ends-in_err-p c = let k = c.loop-tree in
    let h = sym c.has_next.ensures ∙ c.loop-tree-test.true in
    (P.lengths-kept k.invariant.0 h c.judge_next.ensures).1

pub shape_of-starts-in_err-p : goal.shape_of-starts-in_err-p
shape_of-starts-in_err-p c = let k = c.loop-tree in
    let h = sym c.has_next.ensures ∙ c.loop-tree-test.true in
    (P.lengths-kept k.invariant.0 h c.judge_next.ensures).2

pub shape_of-kept-in_err-p : goal.shape_of-kept-in_err-p
shape_of-kept-in_err-p c = let k = c.loop-tree in
    let h = sym c.has_next.ensures ∙ c.loop-tree-test.true in
    (P.lengths-kept k.invariant.0 h c.judge_next.ensures).3

pub shape_of-found-in_err-p : goal.shape_of-found-in_err-p
shape_of-found-in_err-p c = let k = c.loop-tree in
    c.found-1.given ∙ (k.invariant.1.found ∙ sym c.requires.9.found)

pub shape_of-left-in_err-p : goal.shape_of-left-in_err-p
shape_of-left-in_err-p c = let k = c.loop-tree in
    c.left-1.given ∙ (k.invariant.1.left ∙ sym c.requires.9.left)

pub shape_of-right-in_err-p : goal.shape_of-right-in_err-p
shape_of-right-in_err-p c = let k = c.loop-tree in
    c.right-1.given ∙ (k.invariant.1.right ∙ sym c.requires.9.right)

pub returns-in_err-p : goal.returns-in_err-p
returns-in_err-p c = let k = c.loop-tree in
    let h = sym c.has_next.ensures ∙ c.loop-tree-test.true in
    let p = err_from_is_err_and c.from_residual.result c.from_residual.ensures.1 in
    rw (p.1, p.2) (P.judged-bad k.invariant.0 h c.judge_next.ensures _ c.in_err-p.was)

pub loop-tree-smaller : goal.loop-tree-smaller
loop-tree-smaller c = let a = c.args in
    let k = c.loop-tree in
    let h = sym c.has_next.ensures ∙ c.loop-tree-test.true in
    omega (arith, c.in_ok-p.ensures.taken.count_next, next-count a.sheet.now k.p.at k.p.count a.limit h)

pub loop-tree-preserved : goal.loop-tree-preserved
loop-tree-preserved c = let k = c.loop-tree in
    let h = sym c.has_next.ensures ∙ c.loop-tree-test.true in
    (P.judged-next k.invariant.0 h c.in_ok-p.ensures c.requires.7 c.requires.8, record { found = c.found-1.given ∙ k.invariant.1.found; left = c.left-1.given ∙ k.invariant.1.left; right = c.right-1.given ∙ k.invariant.1.right })

pub shape_of-tree : goal.shape_of-tree
shape_of-tree c = c.loop-tree.invariant.0.sized

pub shape_of-ends : goal.shape_of-ends
shape_of-ends c = c.loop-tree.invariant.0.ends-sized

pub shape_of-starts : goal.shape_of-starts
shape_of-starts c = c.loop-tree.invariant.0.starts-sized

pub shape_of-kept : goal.shape_of-kept
shape_of-kept c = c.loop-tree.invariant.0.kept-sized

pub shape_of-found : goal.shape_of-found
shape_of-found c = c.loop-tree.invariant.1.found ∙ sym c.requires.9.found

pub shape_of-left : goal.shape_of-left
shape_of-left c = c.loop-tree.invariant.1.left ∙ sym c.requires.9.left

pub shape_of-right : goal.shape_of-right
shape_of-right c = c.loop-tree.invariant.1.right ∙ sym c.requires.9.right

pub returns : goal.returns
returns c = P.judged-end c.loop-tree.invariant.0 c.requires.6 c.requires.5 (sym c.has_next.ensures ∙ c.loop-tree-test.false)
