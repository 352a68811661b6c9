-- `states::row_cells` meets its contract.
-- Assumes nothing.
use mathlib.Core.Path.{refl}
use Rattle.states.proofs.Rows.{asks_fits, placing}
use Rattle.states.proofs.row_cells.Goals as goal

pub bounds-words-q : goal.bounds-words-q
bounds-words-q c = (asks_fits _ _ _ c.requires.laid c.requires.state).0

pub bounds-words-q-2 : goal.bounds-words-q-2
bounds-words-q-2 c = (asks_fits _ _ _ c.requires.laid c.requires.state).2

pub returns : goal.returns
returns c = placing _ _ _ _ _ c.requires.laid c.requires.state refl refl
