-- `side::complete_one` meets its contract: a state and its failure state are found by runs of the half-finished table; then the row and the set are completed.
-- Assumes nothing.
use Rattle.side.proofs.Parts.{symbols_rest}
use Rattle.side.proofs.Levels.{raised_old, raised_new}
use Rattle.side.proofs.complete_one.Goals as goal

pub returns-then-q-top : goal.returns-then-q-top
returns-then-q-top c = raised_old c.state_of-q.ensures.0 c.if-q-top.true

pub state_of-f-requires : goal.state_of-f-requires
state_of-f-requires c = (c.requires.0, symbols_rest _ _ _ c.requires.2 c.requires.3)

pub returns : goal.returns
returns c = raised_new _ _ c.state_of-q.ensures.0 c.state_of-f.ensures.0 c.if-q-top.false c.complete_row.ensures c.unite.ensures
