-- The loop over the symbols of one pattern.
-- Assumes nothing.
use Rattle.side.proofs.Counting as C
use Rattle.side.proofs.number_one.Given as goal

abbrev pub invariant-loop-symbol : goal.invariant-loop-symbol
invariant-loop-symbol l = C.Symbols l.pats l.lens l.i l.initial.rows l.rows l.at l.symbol-index
