-- `many_names::size_of` meets its contract: the names of a sheet are counted, by the loop invariant `Counting`.
-- Assumes nothing.
use Prim.Native.Nat.{◌-◌}
use Rattle.rules.specs.Limits.{max_names}
use Rattle.many_names.proofs.Sizes as S
use Rattle.many_names.proofs.size_of.Given as goal

abbrev pub invariant-loop-at : goal.invariant-loop-at
invariant-loop-at l = S.Counting l.sheet max_names l.at l.count

abbrev pub decreases-loop-at : goal.decreases-loop-at
decreases-loop-at l = max_names - l.count
