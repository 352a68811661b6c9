-- `fitting::ends_by` meets its contract.
-- Assumes nothing.
use mathlib.Core.Path.{sym, ◌∙◌}
use native.Mathlib.Omega.{arith}
use Rattle.classes.specs.Masks.{classes_in}
use Rattle.fitting.proofs.Members.{ends_past, ends_run}
use Rattle.fitting.proofs.ends_by.Goals as goal

pub returns-then-i-context : goal.returns-then-i-context
returns-then-i-context c = sym (ends_past (classes_in c.args.masks.now) c.args.context.now c.args.frame.now c.args.i c.requires.1 c.if-i-context.true)

pub returns : goal.returns
returns c = c.same_by.ensures ∙ sym (ends_run (classes_in c.args.masks.now) c.args.context.now c.args.frame.now c.args.i c.requires.1 (omega arith))
