-- `packing::group` meets its contract.
-- Assumes nothing.
use Rattle.packing.proofs.Bytes.{group_is}
use borrow.Author.Rules.{rules}
use Rattle.packing.proofs.group.Goals as goal

pub returns : goal.returns
returns c = group_is _ _ _ _ _ c.phone_at-a.ensures.0 c.phone_at-b.ensures.0 c.phone_at-c.ensures.0
