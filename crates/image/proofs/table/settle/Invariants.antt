-- `image::table::settle` meets its contract: the table is laid rule by rule.
-- Assumes nothing.
use mathlib.Core.Path.{◌≡◌}
use mathlib.Core.Bool.{true}
use Rattle.image.specs.Image.{sound}
use Rattle.image.proofs.Settling.{Laying}
use Rattle.image.proofs.table.settle.Given as goal

abbrev pub invariant-loop-q : goal.invariant-loop-q
invariant-loop-q l = (ok : sound l.initial.image ≡ true) → Laying l.initial.image ok l.q l.p l.image
