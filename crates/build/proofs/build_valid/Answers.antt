-- The scratch arrays are long enough.
-- Assumes nothing.
use native.Mathlib.Omega.{arith}
use Prim.Native.Nat.{◌*◌}
use Rattle.rules.specs.Limits.{max_rules, max_pattern}
use Rattle.patterns.proofs.Laying.{cleared}
use Rattle.build.proofs.build_valid.Goals as goal

pub build_with-requires : goal.build_with-requires
build_with-requires c = cleared (max_pattern * max_rules) max_rules (omega arith) (omega arith)

pub returns : goal.returns
returns c = c.build_with.ensures
