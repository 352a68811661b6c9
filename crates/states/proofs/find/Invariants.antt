-- `states::find` meets its contract.
-- Assumes nothing.
use Rattle.states.proofs.Rows.{NoneTo}
use Rattle.states.proofs.find.Given as goal

abbrev pub invariant-loop-i : goal.invariant-loop-i
invariant-loop-i l = NoneTo l.words l.t l.i
