-- `phone_groups::put_groups` meets its contract: after k groups their 3 k bytes are written.
-- Assumes nothing.
use Rattle.phone_strings.specs.Groups.{byte_from}
use Rattle.states.specs.States.{Written}
use Prim.Native.Nat.{◌*◌}
use Rattle.phone_strings.proofs.phone_groups.put_groups.Given as goal

abbrev pub invariant-loop-k : goal.invariant-loop-k
invariant-loop-k l = Written (byte_from l.words l.from) l.at (3 * l.k) l.initial.out l.out
