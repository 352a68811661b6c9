-- `states::closed` meets its contract.
-- Assumes nothing.
use Rattle.states.proofs.Rows.{ended_of}
use borrow.Author.Rules.{rules}
use Rattle.states.proofs.closed.Goals as goal

pub returns : goal.returns
returns c = ended_of _ _ _ _ _ _ _ _ c.skip-j.ensures c.copy.ensures
