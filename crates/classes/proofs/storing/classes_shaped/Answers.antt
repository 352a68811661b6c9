-- `classes::storing::classes_shaped` meets its contract: the classes from c on decide.
-- Assumes nothing.
use mathlib.Core.Path.{sym, ◌∙◌}
use native.Mathlib.Omega.{arith}
use Rattle.classes.specs.Masks.{classes_in}
use Rattle.classes.proofs.Scan.{shaped_begin, shaped_class, shaped_on, shaped_off, shaped_end}
use Rattle.classes.proofs.storing.classes_shaped.Goals as goal

pub loop-c-init : goal.loop-c-init
loop-c-init c = (omega arith, (omega arith, shaped_begin (classes_in c.args.masks.now)))

pub returns-then-not-mask_shaped : goal.returns-then-not-mask_shaped
returns-then-not-mask_shaped c = sym (c.loop-c.invariant.1.1 ∙ shaped_off (classes_in c.args.masks.now) c.loop-c.c (omega arith) (shaped_class c.args.masks.now c.loop-c.c (omega arith) (omega arith) _ c.mask_at.ensures ∙ (sym c.mask_shaped.ensures ∙ c.if-not-mask_shaped.true)))

pub loop-c-preserved : goal.loop-c-preserved
loop-c-preserved c = (omega arith, (omega arith, c.loop-c.invariant.1.1 ∙ shaped_on (classes_in c.args.masks.now) c.loop-c.c (omega arith) (shaped_class c.args.masks.now c.loop-c.c (omega arith) (omega arith) _ c.mask_at.ensures ∙ (sym c.mask_shaped.ensures ∙ c.if-not-mask_shaped.false))))

pub returns : goal.returns
returns c = sym (c.loop-c.invariant.1.1 ∙ shaped_end (classes_in c.args.masks.now) c.loop-c.c (omega arith))
