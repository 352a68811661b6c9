-- One bit of one set word is set.
-- Assumes nothing.
use Rattle.side.proofs.Writing.{one}
use native.Mathlib.Omega.{arith}
use Rattle.side.proofs.put_place.Goals as goal

pub returns : goal.returns
returns c = one _ _ _ _ c.with_bit.ensures (omega arith)
