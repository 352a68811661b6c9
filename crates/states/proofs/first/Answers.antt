-- `states::first` meets its contract.
-- Assumes nothing.
use Rattle.states.proofs.Parts.{seek_next}
use native.Mathlib.Omega.{arith}
use Rattle.states.proofs.first.Goals as goal

pub loop-i-preserved : goal.loop-i-preserved
loop-i-preserved c = seek_next _ _ _ _ _ c.loop-i.invariant (omega arith) (omega (arith, c.key.ensures))
