-- `fitting::fits_by` meets its contract: its target, its right context, its left context.
-- Assumes nothing.
use mathlib.Core.Path.{refl, sym, ◌∙◌}
use Rattle.image.specs.Image.{entry_at, classes_of}
use Rattle.fitting.proofs.Fits.{no_target, no_right, by_left, past_target}
use Rattle.image.proofs.Lent.{classes_lent, masks_long}
use Rattle.image.proofs.Tests.{valid_long}
use Rattle.fitting.proofs.fits_by.Goals as goal

pub returns-then-not-starts_at : goal.returns-then-not-starts_at
returns-then-not-starts_at c = let d = c.args.rules.bytes.now in
    no_target (classes_of d) _ (classes_lent d _ c.requires.0) (entry_at d c.args.place).rule c.args.frame.now c.args.i _ _ _ c.target_at-target.ensures refl refl
    (sym c.starts_at.ensures ∙ c.if-not-starts_at.true)

pub starts_by-requires : goal.starts_by-requires
starts_by-requires c = (masks_long c.args.rules.bytes.now (valid_long c.args.rules.bytes.now c.args.rules.sound) _ c.requires.0, past_target c.target_at-target.result.now c.args.frame.now c.args.i (sym c.starts_at.ensures ∙ c.if-not-starts_at.false) c.requires.1.1)

pub returns-then-not-starts_by : goal.returns-then-not-starts_by
returns-then-not-starts_by c = let d = c.args.rules.bytes.now in
    no_right (classes_of d) _ (classes_lent d _ c.requires.0) (entry_at d c.args.place).rule c.args.frame.now c.args.i _ _ _ c.target_at-target.ensures c.right_at-right.ensures refl
    (sym c.starts_at.ensures ∙ c.if-not-starts_at.false) (sym c.starts_by.ensures ∙ c.if-not-starts_by.true)

pub ends_by-requires : goal.ends_by-requires
ends_by-requires c = (masks_long c.args.rules.bytes.now (valid_long c.args.rules.bytes.now c.args.rules.sound) _ c.requires.0, c.requires.1.1)

pub returns : goal.returns
returns c = let d = c.args.rules.bytes.now in
    by_left (classes_of d) _ (classes_lent d _ c.requires.0) (entry_at d c.args.place).rule c.args.frame.now c.args.i _ _ _ c.target_at-target.ensures c.right_at-right.ensures c.left_at-left.ensures
    (sym c.starts_at.ensures ∙ c.if-not-starts_at.false) (sym c.starts_by.ensures ∙ c.if-not-starts_by.false) _ c.ends_by.ensures
