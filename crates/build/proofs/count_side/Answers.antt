-- How many states a side has: those of its patterns.
-- Assumes nothing.
use Rattle.build.proofs.Whole.{side_ok, side_counted}
use Rattle.build.proofs.count_side.Goals as goal

pub lay_side-requires : goal.lay_side-requires
lay_side-requires c = (c.requires.0, c.requires.1)

pub count_states-requires : goal.count_states-requires
count_states-requires c = side_ok _ _ _ _ _ c.requires.0 c.lay_side.ensures

pub returns : goal.returns
returns c = side_counted _ _ _ _ _ c.requires.0 c.lay_side.ensures _ c.count_states.ensures
