-- `image::rule_at` meets its contract.
-- Assumes nothing.
use Prim.Native.Nat.{◌-◌}
use mathlib.Core.Path.{ap, ◌∙◌}
use Rattle.image.specs.Image.{slot_of, slot_start}
use native.Mathlib.Omega.{arith}
use lib.ListN.{length, drop, length-drop}
use lib.Seq.{take_all}
use Rattle.image.proofs.rule_at.Goals as goal

pub returns : goal.returns
returns c = c.slot_of.ensures ∙ ap slot_of (take_all (length c.args.image.now - slot_start c.args.place) (drop (slot_start c.args.place) c.args.image.now) (simp length-drop (omega arith)))
