-- `states::first` meets its contract.
-- Assumes nothing.
use Rattle.states.proofs.Parts.{Seeking}
use Rattle.states.proofs.first.Given as goal

abbrev pub invariant-loop-i : goal.invariant-loop-i
invariant-loop-i l = Seeking l.words l.a l.e l.c l.i
