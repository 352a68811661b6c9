-- `classes::runs::literal_count` meets its contract.
-- Assumes nothing.
use Rattle.classes.specs.Expansion.{size}
use Rattle.classes.specs.Masks.{classes_in}
use Rattle.classes.proofs.Scan.{cap_both}
use Rattle.classes.proofs.runs.literal_count.Goals as goal

pub returns : goal.returns
returns c = (cap_both (size (classes_in c.args.masks.now) c.args.left.now) (size (classes_in c.args.masks.now) c.args.right.now) _ _ c.run_size.ensures.0 c.run_size-2.ensures.0, c.run_size-2.ensures.1)
