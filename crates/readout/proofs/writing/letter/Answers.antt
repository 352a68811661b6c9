-- `letter` gives the place of a cell.
-- Assumes nothing.
use mathlib.Core.Path.{refl}
use Rattle.automaton.specs.Automaton.{key_of}
use Rattle.readout.proofs.writing.letter.Goals as goal

pub returns : goal.returns
unfolding key_of
returns c = refl
