-- `image::put_number` meets its contract.
-- Assumes nothing.
use Prim.Native.Nat.{◌/◌, ◌%◌}
use mathlib.Core.Path.{sym, ◌∙◌}
use native.Mathlib.Omega.{arith}
use Rattle.rules.proofs.Memory.{over_two}
use Rattle.image.specs.Image.{slot_start}
use Rattle.image.proofs.Bytes.{two_put}
use Rattle.image.proofs.put_number.Goals as goal

pub returns : goal.returns
returns c = two_put c.args.image.now _ _ (slot_start c.args.place) c.args.number (omega arith) c.to_be_bytes.ensures c.put.ensures
    ∙ sym (over_two (slot_start c.args.place) (c.args.number / 256) (c.args.number % 256) c.args.image.now (omega arith))
