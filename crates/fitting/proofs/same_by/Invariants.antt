-- `fitting::same_by` meets its contract: the symbols from i on decide.
-- Assumes nothing.
use Prim.Native.Nat.{◌+◌, ◌-◌}
use mathlib.Core.Path.{◌≡◌}
use lib.ListN.{length, take, drop}
use Rattle.classes.specs.Masks.{classes_in}
use Rattle.fitting.specs.Fitting.{same_by}
use Rattle.fitting.proofs.same_by.Given as goal

abbrev pub invariant-loop-i : goal.invariant-loop-i
invariant-loop-i l = same_by (classes_in l.masks) l.context (take (length l.context) (drop l.at l.frame)) ≡ same_by (classes_in l.masks) (drop l.i l.context) (take (length l.context - l.i) (drop (l.at + l.i) l.frame))
