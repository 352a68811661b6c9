-- The loop over the words of a set.
-- Assumes nothing.
use Rattle.tables.specs.Words.{set_size}
use Rattle.side.proofs.Writing.{begin, full, next_united}
use native.Mathlib.Omega.{arith}
use Rattle.side.proofs.unite.Goals as goal

pub loop-j-init : goal.loop-j-init
loop-j-init c = begin _ _ _

pub loop-j-preserved : goal.loop-j-preserved
loop-j-preserved c = next_united c.loop-j.invariant (omega arith) (omega arith) c.requires.2

pub returns : goal.returns
returns c = full set_size c.loop-j.invariant (omega arith)
