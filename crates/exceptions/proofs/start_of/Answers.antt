-- `exceptions::start_of` meets its contract.
-- Assumes nothing.
use Rattle.exceptions.proofs.Sizes.{size_is, start_is}
use native.Mathlib.Omega.{arith}
use Rattle.exceptions.proofs.start_of.Goals as goal

pub bounds-words-4199 : goal.bounds-words-4199
bounds-words-4199 c = omega (arith, size_is)

pub returns : goal.returns
returns c = start_is _
