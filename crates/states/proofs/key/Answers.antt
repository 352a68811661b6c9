-- `states::key` meets its contract.
-- Assumes nothing.
use Rattle.automaton.specs.Automaton.{key_of, val_of, cell_of}
use mathlib.Core.Path.{refl}
use borrow.Author.Rules.{rules}
use Rattle.states.proofs.key.Goals as goal

pub returns : goal.returns
unfolding key_of val_of cell_of
returns c = refl
