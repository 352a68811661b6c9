-- `minimality::rising` meets its contract.
-- Assumes nothing.
use Rattle.minimality.proofs.Good.{rising_of}
use Rattle.minimality.proofs.rising.Goals as goal

pub returns : goal.returns
returns c = rising_of c.args.words.now c.args.n c.is_sorted.result c.requires c.is_sorted.ensures.cases
