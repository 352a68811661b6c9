-- `change::relist` meets its contract: the packed groups are those of the phones.
-- Assumes nothing.
use Prim.Native.Nat.{◌≤◌}
use native.Mathlib.Omega.{arith}
use borrow.Author.Rules.{rules}
use Rattle.minimality.proofs.Scan.{fails, holds}
use Rattle.packing.proofs.Bytes.{take-length}
use Rattle.change.proofs.Lists.{names_full, packed_within, packed_ask, packed_listed}
use Rattle.change.proofs.relist.Goals as goal

full : 22 ≤ 22
full = omega arith

pub returns-then-not-names_fit : goal.returns-then-not-names_fit
returns-then-not-names_fit c = names_full _ _ _ c.requires (fails _ _ c.names_fit.ensures c.if-not-names_fit.true-raw)

pub slice_bounds-groups-end : goal.slice_bounds-groups-end
slice_bounds-groups-end c = packed_within _ _ _ c.requires _ _ _ full c.pack-len.ensures

pub slice_bounds-regroup-end : goal.slice_bounds-regroup-end
slice_bounds-regroup-end c = take-length _ _ (packed_within _ _ _ c.requires _ _ _ full c.pack-len.ensures)

pub regroup-requires : goal.regroup-requires
regroup-requires c = packed_ask _ _ _ c.requires _ _ _ full c.pack-len.ensures

pub returns : goal.returns
returns c = packed_listed _ _ _ c.requires _ _ _ full c.pack-len.ensures (holds _ _ c.names_fit.ensures c.if-not-names_fit.false-raw) _ _ c.regroup.ensures
