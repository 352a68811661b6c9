-- `change::rebuild::apply` meets its contract: `filled` gives put its room; too many marked rows mean that no list says the change.
-- Assumes nothing.
use borrow.Author.Rules.{rules}
use Rattle.change.proofs.Building.{put_asks, sweep_ready, applied}
use Rattle.change.proofs.rebuild.apply.Goals as goal

pub put-placed-requires : goal.put-placed-requires
put-placed-requires c = put_asks _ _ _ _ c.requires.0 c.requires.1

pub sweep-requires : goal.sweep-requires
sweep-requires c = sweep_ready _ _ _ _ c.requires.0 c.requires.1 _ _ c.put-placed.ensures

pub returns : goal.returns
returns c = applied _ _ _ _ c.requires.0 c.requires.1 _ _ c.put-placed.ensures _ _ c.sweep.ensures
