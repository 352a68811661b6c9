-- `rules::length_shaped` meets its contract.
-- Assumes nothing.
use mathlib.Core.Path.{sym}
use native.Mathlib.Omega.{arith}
use lib.Seq.{length-take-le}
use borrow.Author.Tests.{le-leb, lt-leb}
use Rattle.rules.proofs.Laws.{length_first, first_take}
use Rattle.rules.proofs.length_shaped.Goals as goal

pub returns-then-e-low : goal.returns-then-e-low
returns-then-e-low c = rw (length_first, lt-leb _ _ c.if-e-low.true)

pub returns-then-high-e : goal.returns-then-high-e
returns-then-high-e c = rw (length_first, le-leb _ _ c.if-e-low.false, lt-leb _ _ c.if-high-e.true)

pub slice_bounds-all_within-end : goal.slice_bounds-all_within-end
slice_bounds-all_within-end c = sym (length-take-le _ _ (omega arith))

pub returns : goal.returns
returns c = rw (length_first, le-leb _ _ c.if-e-low.false, le-leb _ _ c.if-high-e.false, first_take c.args.n c.args.s.now 0 (omega arith)) c.all_within.ensures
