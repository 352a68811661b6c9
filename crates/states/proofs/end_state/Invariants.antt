-- `states::end_state` meets its contract: the rest of the name, from the state that is reached, ends where the whole does.
-- Assumes nothing.
use Rattle.states.proofs.Rows.{Following}
use Rattle.states.proofs.end_state.Given as goal

abbrev pub invariant-loop-c : goal.invariant-loop-c
invariant-loop-c l = Following l.words l.n l.name l.q l.c-index
