-- `image::clear` meets its contract: a head of zeros, no class and no literal rule are the empty ruleset.
-- Assumes nothing.
use native.Mathlib.Omega.{arith}
use Rattle.image.proofs.Emptied.{emptied}
use Rattle.image.proofs.Tests.{clear_short, clear_long}
use Rattle.image.proofs.clear.Goals as goal

pub returns-then-image-lt-SIZE : goal.returns-then-image-lt-SIZE
returns-then-image-lt-SIZE c = clear_short c.args.image.now c.if-image-lt-SIZE.true

pub returns : goal.returns
returns c = clear_long c.args.image.now _ (omega arith) (emptied c.args.image.now (omega arith) _ _ c.put_head.ensures c.clear.ensures)
