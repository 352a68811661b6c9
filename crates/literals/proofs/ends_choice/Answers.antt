-- `literals::ends_choice` meets its contract: a choice that ends a part of the frame is one run of it.
-- Assumes nothing.
use mathlib.Core.Path.{ap, ◌∙◌}
use Rattle.std.specs.Option.{is_some}
use Rattle.classes.specs.Masks.{classes_in}
use Rattle.literals.proofs.Matching.{ends_short, ends_told}
use Rattle.literals.proofs.ends_choice.Goals as goal

pub returns-then-i-run : goal.returns-then-i-run
returns-then-i-run c = ends_short (classes_in c.args.masks.now) c.args.run.now c.requires.1.0 c.args.j c.args.frame.now c.args.i c.requires.1.1 c.if-i-run.true

pub returns : goal.returns
returns c = c.is_some.ensures ∙ (ap is_some c.match_choice.ensures ∙ ends_told (classes_in c.args.masks.now) c.args.run.now c.requires.1.0 c.args.j c.args.frame.now c.args.i c.requires.1.1 c.if-i-run.false)
