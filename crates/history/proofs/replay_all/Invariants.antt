-- `history::replay_all` meets its contract.
-- Assumes nothing.
use Rattle.history.proofs.Runs.{Going}
use Rattle.history.proofs.replay_all.Given as goal

abbrev pub invariant-loop-i : goal.invariant-loop-i
invariant-loop-i l = Going l.letters l.code l.initial.image l.initial.answers l.initial.places l.n l.image l.answers l.places l.i
