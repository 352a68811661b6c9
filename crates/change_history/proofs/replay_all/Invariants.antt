-- `change_history::replay_all` meets its contract.
-- Assumes nothing.
use Rattle.change_history.proofs.Turns.{Going}
use Rattle.change_history.proofs.replay_all.Given as goal

abbrev pub invariant-loop-i : goal.invariant-loop-i
invariant-loop-i l = Going l.code l.text l.initial.list l.initial.answers l.initial.places l.n l.list l.answers l.places l.i l.at l.from
