-- `rules::all_symbols` meets its contract: the symbols are tested in turn.
-- Assumes nothing.
use mathlib.Core.Path.{◌≡◌}
use lib.ListN.{drop}
use Rattle.rules.specs.Shape.{all_symbols}
use Rattle.rules.proofs.all_symbols.Given as goal

abbrev pub invariant-loop-x : goal.invariant-loop-x
invariant-loop-x l = all_symbols l.s ≡ all_symbols (drop l.x-index l.s)
