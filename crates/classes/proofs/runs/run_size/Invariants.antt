-- `classes::runs::run_size` meets its contract. The loop's invariant: what is counted, times the choices of the rest, is the whole, as far as it is told.
-- Assumes nothing.
use Prim.Native.Nat.{◌*◌, ◌≤◌}
use mathlib.Core.Path.{◌≡◌}
use lib.ListN.{drop}
use Rattle.classes.specs.Counting.{capped}
use Rattle.classes.specs.Expansion.{size}
use Rattle.classes.specs.Masks.{classes_in}
use Rattle.classes.proofs.runs.run_size.Given as goal

abbrev pub invariant-loop-symbol : goal.invariant-loop-symbol
invariant-loop-symbol l = (l.n ≤ 513) × (capped (l.from * size (classes_in l.masks) l.run) ≡ capped (l.n * size (classes_in l.masks) (drop l.symbol-index l.run)))
