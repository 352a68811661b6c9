-- `states::end_state` meets its contract: the rest of the name, from the state that is reached, ends where the whole does.
-- Assumes nothing.
use Rattle.states.proofs.Rows.{follow_none}
use Rattle.states.proofs.end_state.Goals as goal

pub returns-then-q-eq0 : goal.returns-then-q-eq0
returns-then-q-eq0 c = follow_none _ _ _ _ _ c.requires c.loop-c.invariant c.if-q-eq0.true
