-- `minimality::all_marked` meets its contract.
-- Assumes nothing.
use Rattle.minimality.proofs.Scan.{none_zero}
use Rattle.minimality.proofs.all_marked.Goals as goal

pub returns : goal.returns
returns c = none_zero c.args.marks.now c.args.n c.contains.result c.requires c.contains.ensures.cases
