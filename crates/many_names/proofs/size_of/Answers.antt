-- `many_names::size_of` meets its contract: the names of a sheet are counted, by the loop invariant `Counting`.
-- Assumes nothing.
use mathlib.Core.Path.{sym, ◌∙◌}
use Rattle.rules.specs.Limits.{max_names}
use Rattle.many_names.proofs.Names.{next-count, next-whole}
use Rattle.many_names.proofs.Sizes as S
use lib.ListN.{length}
use borrow.Author.Tests.{eqb-true}
use native.Mathlib.Omega.{arith}
use Rattle.many_names.proofs.size_of.Goals as goal

pub loop-at-init : goal.loop-at-init
loop-at-init c = S.counting-begin _ max_names

pub has_next-requires : goal.has_next-requires
has_next-requires c = c.loop-at.invariant.at_in

pub bounds-sheet-at : goal.bounds-sheet-at
bounds-sheet-at c = let l = c.loop-at in
    let h = sym c.has_next.ensures ∙ c.loop-at-test.true in
    let w = next-whole c.args.sheet.now l.at l.count max_names h in
    omega arith

pub loop-at-smaller : goal.loop-at-smaller
loop-at-smaller c = let l = c.loop-at in
    let h = sym c.has_next.ensures ∙ c.loop-at-test.true in
    let u = next-count c.args.sheet.now l.at l.count max_names h in
    omega arith

pub loop-at-preserved : goal.loop-at-preserved
loop-at-preserved c = let sheet = c.args.sheet.now in
    let l = c.loop-at in
    let h = sym c.has_next.ensures ∙ c.loop-at-test.true in
    let b = c.shared_slice_known-1.given l.at in
    S.counting-next sheet max_names l.at l.count l.invariant h _ (omega arith) (omega arith)

pub returns : goal.returns
returns c = let sheet = c.args.sheet.now in
    let l = c.loop-at in
    let h = sym c.has_next.ensures ∙ c.loop-at-test.false in
    record {
      sound = S.counted-sound sheet max_names l.at l.count l.invariant h;
      count = S.counted-names sheet max_names l.at l.count l.invariant h;
      few = λ e. omega (arith, l.invariant.at-few, l.invariant.count-in, eqb-true l.at (length sheet) e);
    }
