-- `image::table::is_table` meets its contract: the rules are tested in turn.
-- Assumes nothing.
use Prim.Native.Nat.{◌≤◌}
use mathlib.Core.Path.{◌≡◌}
use mathlib.Core.Bool.{◌&&◌}
use Rattle.rules.specs.Limits.{max_rules}
use Rattle.image.specs.State.{expandable}
use Rattle.image.specs.Image.{classes_of, entries_of, tabled}
use Rattle.image.proofs.Origins.{rest_fine}
use Rattle.image.proofs.table.is_table.Given as goal

abbrev pub invariant-loop-q : goal.invariant-loop-q
invariant-loop-q l = (l.p ≤ max_rules) × ((expandable (classes_of l.image) (entries_of l.image) && tabled l.image) ≡ rest_fine l.image (classes_of l.image) (entries_of l.image) l.q l.p)
