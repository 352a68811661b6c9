-- `fitting::starts_by` meets its contract.
-- Assumes nothing.
use mathlib.Core.Path.{sym, ◌∙◌}
use native.Mathlib.Omega.{arith}
use Rattle.classes.specs.Masks.{classes_in}
use Rattle.fitting.proofs.Members.{starts_past, starts_run}
use Rattle.fitting.proofs.starts_by.Goals as goal

pub returns-then-frame-i : goal.returns-then-frame-i
returns-then-frame-i c = sym (starts_past (classes_in c.args.masks.now) c.args.context.now c.args.frame.now c.args.i c.requires.1 c.if-frame-i.true)

pub returns : goal.returns
returns c = c.same_by.ensures ∙ sym (starts_run (classes_in c.args.masks.now) c.args.context.now c.args.frame.now c.args.i c.requires.1 (omega arith))
