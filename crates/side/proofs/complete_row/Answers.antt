-- The loop over the entries of a row: where there is no child, the entry of the failure state.
-- Assumes nothing.
use Rattle.tables.specs.Words.{row_size}
use Rattle.side.proofs.Writing.{begin, full, next_completed}
use native.Mathlib.Omega.{arith}
use Rattle.side.proofs.complete_row.Goals as goal

pub loop-c-init : goal.loop-c-init
loop-c-init c = begin _ _ _

pub loop-c-preserved : goal.loop-c-preserved
loop-c-preserved c = next_completed c.or_else.result c.loop-c.invariant (omega arith) (omega arith) c.requires.2 c.or_else.ensures

pub returns : goal.returns
returns c = full row_size c.loop-c.invariant (omega arith)
