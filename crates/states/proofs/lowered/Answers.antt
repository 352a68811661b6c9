-- `states::lowered` meets its contract.
-- Assumes nothing.
use Rattle.states.proofs.Rows.{lowered_of}
use mathlib.Core.Path.{refl}
use Rattle.states.proofs.lowered.Goals as goal

pub returns : goal.returns
returns c = lowered_of _ _ _ _ _ _ c.requires _ _ _ _ c.row_cells-s.ensures c.first-i.ensures refl c.copy.ensures refl refl refl
