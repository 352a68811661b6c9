-- `image::differ_in` meets its contract.
-- Assumes nothing.
use native.Mathlib.Omega.{arith}
use Rattle.image.proofs.differ_in.Goals as goal

pub whole_as_slice-numbers_differ : goal.whole_as_slice-numbers_differ
whole_as_slice-numbers_differ g c = omega (arith, c.requires)
