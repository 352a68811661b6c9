-- `image::entries_valid` meets its contract.
-- Assumes nothing.
use mathlib.Core.Path.{◌≡◌}
use mathlib.Core.List.{map}
use lib.ListN.{drop}
use Rattle.rules.specs.Shape.{entry_of}
use Rattle.image.specs.State.{entries}
use Rattle.image.specs.Image.{rules_in}
use Rattle.image.proofs.entries_valid.Given as goal

abbrev pub invariant-loop-i : goal.invariant-loop-i
invariant-loop-i l = entries l.last (map entry_of (rules_in l.count l.image)) ≡ entries l.last (map entry_of (drop l.i (rules_in l.count l.image)))
