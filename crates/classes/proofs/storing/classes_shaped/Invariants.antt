-- `classes::storing::classes_shaped` meets its contract: the classes from c on decide.
-- Assumes nothing.
use Prim.Native.Nat.{◌-◌, ◌≤◌}
use mathlib.Core.Path.{◌≡◌}
use Rattle.classes.specs.Masks.{classes_in, classes_shaped, classes_shaped_from}
use Rattle.classes.proofs.storing.classes_shaped.Given as goal

abbrev pub invariant-loop-c : goal.invariant-loop-c
invariant-loop-c l = (64 ≤ l.c) × ((l.c ≤ 96) × (classes_shaped (classes_in l.masks) ≡ classes_shaped_from (classes_in l.masks) l.c (96 - l.c)))
