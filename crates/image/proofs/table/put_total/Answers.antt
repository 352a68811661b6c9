-- `image::table::put_total` meets its contract.
-- Assumes nothing.
use native.Mathlib.Omega.{arith}
use Rattle.image.specs.Image.{total_start}
use Rattle.image.proofs.Bytes.{two_put}
use Rattle.image.proofs.table.put_total.Goals as goal

pub returns : goal.returns
returns c = two_put c.args.image.now _ _ total_start c.args.total (omega arith) c.to_be_bytes.ensures c.put.ensures
