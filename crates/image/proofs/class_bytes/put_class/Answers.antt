-- `image::class_bytes::put_class` meets its contract: the bytes of the classes are lent and come back.
-- Assumes nothing.
use Rattle.image.proofs.Lent.{part_back, part_long}
use native.Mathlib.Omega.{arith}
use Rattle.image.proofs.class_bytes.put_class.Goals as goal

pub put_mask-requires : goal.put_mask-requires
put_mask-requires c = (omega (arith, part_long c.args.image.now c.requires.0), (c.requires.1.0, c.requires.1.1))

pub returns : goal.returns
returns c = part_back c.args.image.now c.requires.0 c.args.symbol c.requires.1.0 c.requires.1.1 c.args.mask _ c.put_mask.ensures
