-- `literals::starts_choice` meets its contract: a choice that starts the frame is one run of it.
-- Assumes nothing.
use mathlib.Core.Path.{◌∙◌}
use Rattle.classes.specs.Masks.{classes_in}
use Rattle.literals.proofs.Matching.{begins_past, begins_run}
use Rattle.literals.proofs.starts_choice.Goals as goal

pub returns-then-frame-i : goal.returns-then-frame-i
returns-then-frame-i c = begins_past (classes_in c.args.masks.now) c.args.run.now c.requires.1.0 c.args.j c.args.frame.now c.args.i c.requires.1.1 c.if-frame-i.true

pub returns : goal.returns
returns c = c.match_choice.ensures ∙ begins_run (classes_in c.args.masks.now) c.args.run.now c.requires.1.0 c.args.j c.args.frame.now c.args.i c.requires.1.1 c.if-frame-i.false
