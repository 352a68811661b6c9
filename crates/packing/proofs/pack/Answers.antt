-- `packing::pack` meets its contract.
-- Assumes nothing.
use Rattle.packing.proofs.Bytes.{pack_end}
use Rattle.std.proofs.Common.{length-take}
use lib.ListN.{length}
use Prim.Native.Nat.{◌+◌, ◌/◌}
use mathlib.Core.Path.{refl}
use native.Mathlib.Omega.{arith}
use Rattle.packing.proofs.pack.Goals as goal

pub returns : goal.returns
returns c =
    let t = length-take ((length c.args.phones.now + 2) / 3) c.args.groups.now in
    pack_end c.args.phones.now c.loop-k.k _ c.args.groups.now _ refl (omega arith) (omega arith) c.loop-k.invariant
