-- `classes::ordinals::rest_of` meets its contract: what is left after i symbols is divided by the choices of the others.
-- Assumes nothing.
use Prim.Native.Nat.{◌/◌}
use mathlib.Core.Path.{◌≡◌}
use lib.ListN.{drop}
use Rattle.classes.specs.Expansion.{size}
use Rattle.classes.specs.Masks.{classes_in}
use Rattle.classes.proofs.ordinals.rest_of.Given as goal

abbrev pub invariant-loop-symbol : goal.invariant-loop-symbol
invariant-loop-symbol l = l.j / size (classes_in l.masks) l.run ≡ l.q / size (classes_in l.masks) (drop l.symbol-index l.run)
