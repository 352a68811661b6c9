-- `fitting::first_fit` meets its contract: the rules from a place on decide.
-- Assumes nothing.
use Rattle.fitting.proofs.Search.{Searched}
use Rattle.fitting.proofs.first_fit.Given as goal

abbrev pub invariant-loop-place : goal.invariant-loop-place
invariant-loop-place l = Searched l.image l.frame l.i l.place
