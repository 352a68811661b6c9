-- `edits::place_of` meets its contract.
-- Assumes nothing.
use Prim.Native.Nat.{◌+◌}
use mathlib.Core.Path.{◌≡◌}
use lib.ListN.{drop}
use Rattle.image.specs.Image.{rules_in}
use Rattle.edits.specs.Ledger.{place_of}
use Rattle.edits.proofs.place_of.Given as goal

abbrev pub invariant-loop-i : goal.invariant-loop-i
invariant-loop-i l = place_of l.number (rules_in l.count l.image) ≡ l.i + place_of l.number (drop l.i (rules_in l.count l.image))
