-- `minimality::rows_good` meets its contract.
-- Assumes nothing.
use mathlib.Core.Path.{refl}
use Rattle.minimality.proofs.Good.{row_fits, rows_next, rows_no, rows_yes}
use native.Mathlib.Omega.{arith}
use borrow.Author.Rules.{rules}
use Rattle.minimality.proofs.rows_good.Goals as goal

pub slice_bounds-row_good-end : goal.slice_bounds-row_good-end
slice_bounds-row_good-end c = let f = row_fits c.args.words.now c.args.n c.loop-q.q _ _ c.requires.2 (omega arith) refl refl in search rules

pub returns-then-not-row_good : goal.returns-then-not-row_good
returns-then-not-row_good c =
    let f = row_fits c.args.words.now c.args.n c.loop-q.q _ _ c.requires.2 (omega arith) refl refl in
    rows_no _ _ _ _ _ f (omega arith) refl refl (c.row_good.ensures.no c.if-not-row_good.true)

pub loop-q-preserved : goal.loop-q-preserved
loop-q-preserved c =
    let f = row_fits c.args.words.now c.args.n c.loop-q.q _ _ c.requires.2 (omega arith) refl refl in
    (omega arith, rows_next c.args.words.now _ _ _ f c.loop-q.invariant.1 refl refl (c.row_good.ensures.yes c.if-not-row_good.false))

pub returns-else-not-row_good : goal.returns-else-not-row_good
returns-else-not-row_good c =
    let f = row_fits c.args.words.now c.args.n c.loop-q.q _ _ c.requires.2 (omega arith) refl refl in
    rows_yes c.args.words.now _ _ (rows_next c.args.words.now _ _ _ f c.loop-q.invariant.1 refl refl (c.row_good.ensures.yes c.if-not-row_good.false)) (omega arith)
