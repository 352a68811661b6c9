-- `rules::right_shaped` meets its contract.
-- Assumes nothing.
use mathlib.Core.Path.{sym}
use native.Mathlib.Omega.{arith}
use lib.Seq.{length-take-le}
use borrow.Author.Tests.{le-leb, lt-leb}
use Rattle.rules.proofs.Laws.{length_first, first_take}
use Rattle.rules.proofs.right_shaped.Goals as goal

pub returns-then-e-gt-MAX_CONTEXT : goal.returns-then-e-gt-MAX_CONTEXT
returns-then-e-gt-MAX_CONTEXT c = rw (length_first, lt-leb _ _ c.if-e-gt-MAX_CONTEXT.true)

pub slice_bounds-is_right_context-end : goal.slice_bounds-is_right_context-end
slice_bounds-is_right_context-end c = sym (length-take-le _ _ (omega arith))

pub returns : goal.returns
returns c = rw (length_first, le-leb _ _ c.if-e-gt-MAX_CONTEXT.false, first_take c.args.n c.args.s.now 0 (omega arith)) c.is_right_context.ensures
