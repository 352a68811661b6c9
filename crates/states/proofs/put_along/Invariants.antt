-- `states::put_along` meets its contract: the change of the name from place i on is made, from the last place back to the first.
-- Assumes nothing.
use Rattle.states.proofs.Puts.{Along}
use Rattle.states.proofs.put_along.Given as goal

abbrev pub invariant-loop-i : goal.invariant-loop-i
invariant-loop-i l = Along l.n l.name l.groups l.path l.initial.words l.initial.placed l.i l.words l.placed
