-- The arrays have a node for each of the most patterns, and one for the empty string.
-- Assumes nothing.
use Prim.Native.Nat.{◌+◌}
use native.Mathlib.Omega.{arith}
use Rattle.rules.specs.Limits.{max_rules}
use Rattle.count.proofs.Counting.{zero_room, zero_chains}
use Rattle.count.proofs.count_states.Goals as goal

pub count_all-requires : goal.count_all-requires
count_all-requires c = let pre = c.requires in
    (pre, zero_room (max_rules + 1) _ (omega (arith, pre.few)), zero_chains (max_rules + 1) (omega arith))
