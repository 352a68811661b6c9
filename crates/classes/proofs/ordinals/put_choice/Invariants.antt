-- `classes::ordinals::put_choice` meets its contract. The loop's invariant: the symbols from i on are stored, and q is j divided by their choices.
-- Assumes nothing.
use Prim.Native.Nat.{◌/◌}
use mathlib.Core.Path.{◌≡◌}
use lib.ListN.{drop}
use Rattle.classes.specs.Expansion.{size}
use Rattle.classes.specs.Masks.{classes_in}
use Rattle.classes.proofs.Store.{choice_from}
use Rattle.classes.proofs.ordinals.put_choice.Given as goal

abbrev pub invariant-loop-i : goal.invariant-loop-i
invariant-loop-i l = (l.q ≡ l.j / size (classes_in l.masks) (drop l.i l.run)) × (l.out ≡ choice_from (classes_in l.masks) l.run l.j l.initial.out l.i)
