-- `fitting::starts_at` meets its contract.
-- Assumes nothing.
use mathlib.Core.Path.{sym, ◌∙◌}
use native.Mathlib.Omega.{arith}
use Rattle.fitting.proofs.Strings.{starts_past, starts_run}
use borrow.Author.Rules.{rules}
use Rattle.fitting.proofs.starts_at.Goals as goal

pub returns-then-frame-i : goal.returns-then-frame-i
returns-then-frame-i c = sym (starts_past c.args.pattern.now c.args.frame.now c.args.i c.requires c.if-frame-i.true)

pub returns : goal.returns
returns c = c.same_run.ensures ∙ sym (starts_run c.args.pattern.now c.args.frame.now c.args.i c.requires (omega arith))
