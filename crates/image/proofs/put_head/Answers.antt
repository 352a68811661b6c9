-- `image::put_head` meets its contract.
-- Assumes nothing.
use native.Mathlib.Omega.{arith}
use Rattle.image.proofs.Bytes.{two_put, head_put}
use Rattle.image.proofs.put_head.Goals as goal

pub returns : goal.returns
returns c = head_put c.args.image.now c.put.new.s c.put-2.new.s _ _ c.args.count c.args.last c.args.edits (omega arith) (omega arith)
    (two_put c.args.image.now _ _ 0 c.args.count (omega arith) c.to_be_bytes.ensures c.put.ensures)
    (two_put c.put.new.s _ _ 2 c.args.last (omega arith) c.to_be_bytes-2.ensures c.put-2.ensures)
    c.to_be_bytes-3.ensures c.put-3.ensures
