-- `minimality::key` meets its contract.
-- Assumes nothing.
use Rattle.minimality.proofs.Keys.{hash_begin}
use Rattle.minimality.proofs.key.Goals as goal

pub loop-x-init : goal.loop-x-init
loop-x-init c = hash_begin _
