-- `image::entries_valid` meets its contract.
-- Assumes nothing.
use mathlib.Core.Path.{refl, sym, ap, ◌∙◌}
use mathlib.Core.List.{List, map}
use native.Mathlib.Omega.{arith}
use lib.ListN.{length, length-drop}
use Rattle.rules.specs.Shape.{entry_of}
use Rattle.rules.specs.declared.Numbered.{Numbered}
use Rattle.rules.proofs.Memory.{tail_is}
use Rattle.image.specs.State.{entries}
use Rattle.image.specs.Image.{rule_start, numbered_at}
use Rattle.image.proofs.Scan.{past, shaped_at, entry_shape, entry_low, entry_high, entry_on}
use Rattle.image.proofs.entries_valid.Goals as goal

pub loop-i-init : goal.loop-i-init
loop-i-init c = refl

pub well_shaped-requires : goal.well_shaped-requires
well_shaped-requires c = let l = c.loop-i.i in omega (arith, ap length (tail_is (rule_start l) c.args.image.now), length-drop (rule_start l) c.args.image.now)

pub returns-then-not-well_shaped : goal.returns-then-not-well_shaped
returns-then-not-well_shaped c = sym (c.loop-i.invariant ∙ entry_shape c.args.image.now c.args.count c.loop-i.i (omega arith) c.args.last (numbered_at c.args.image.now c.loop-i.i) refl (sym (shaped_at c.args.image.now c.loop-i.i _ c.well_shaped.ensures) ∙ c.if-not-well_shaped.true))

pub returns-then-number-lt1 : goal.returns-then-number-lt1
returns-then-number-lt1 c = sym (c.loop-i.invariant ∙ entry_low c.args.image.now c.args.count c.loop-i.i (omega arith) c.args.last (numbered_at c.args.image.now c.loop-i.i) refl (sym (shaped_at c.args.image.now c.loop-i.i _ c.well_shaped.ensures) ∙ c.if-not-well_shaped.false) (omega (arith, c.number_at-number.ensures)))

pub returns-then-last-number : goal.returns-then-last-number
returns-then-last-number c = sym (c.loop-i.invariant ∙ entry_high c.args.image.now c.args.count c.loop-i.i (omega arith) c.args.last (numbered_at c.args.image.now c.loop-i.i) refl (sym (shaped_at c.args.image.now c.loop-i.i _ c.well_shaped.ensures) ∙ c.if-not-well_shaped.false) (omega (arith, c.number_at-number.ensures, c.if-number-lt1.false)) (omega (arith, c.number_at-number.ensures, c.if-last-number.true)))

pub loop-i-preserved : goal.loop-i-preserved
loop-i-preserved c = c.loop-i.invariant ∙ entry_on c.args.image.now c.args.count c.loop-i.i (omega arith) c.args.last (numbered_at c.args.image.now c.loop-i.i) refl (sym (shaped_at c.args.image.now c.loop-i.i _ c.well_shaped.ensures) ∙ c.if-not-well_shaped.false) (omega (arith, c.number_at-number.ensures, c.if-number-lt1.false)) (omega (arith, c.number_at-number.ensures, c.if-last-number.false))

pub returns : goal.returns
returns c = sym (c.loop-i.invariant ∙ ap (λ (l : List Numbered). entries c.args.last (map entry_of l)) (past c.args.image.now c.args.count c.loop-i.i c.loop-i-test.false))
