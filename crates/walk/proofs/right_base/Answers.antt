-- `walk::right_base` meets its contract.
-- Assumes nothing.
use mathlib.Core.Path.{sym, ap}
use mathlib.Core.Bool.{Bool, cond}
use native.Mathlib.Omega.{arith}
use Rattle.tables.specs.Words.{right_sets}
use Rattle.walk.proofs.right_base.Goals as goal

pub returns-then-not-fit : goal.returns-then-not-fit
returns-then-not-fit c = sym (ap (λ (b : Bool). cond b (right_sets c.args.left_states) 0) (c.if-not-fit.true))

pub overflow_mul-result : goal.overflow_mul-result
overflow_mul-result c = let h = c.requires (c.if-not-fit.false) in omega arith

pub returns : goal.returns
returns c = sym (ap (λ (b : Bool). cond b (right_sets c.args.left_states) 0) (c.if-not-fit.false))
