-- `fitting::same_run` meets its contract: the symbols from i on decide.
-- Assumes nothing.
use Prim.Native.Nat.{◌+◌, ◌-◌, ◌≤◌}
use mathlib.Core.Path.{◌≡◌, sym, ◌∙◌}
use native.Mathlib.Omega.{arith}
use borrow.Author.Rules.{rules}
use lib.ListN.{length, take, drop}
use Rattle.fitting.specs.Fitting.{same}
use Rattle.fitting.proofs.Strings.{run_begin, run_on, run_off, run_end}
use Rattle.fitting.proofs.same_run.Goals as goal

pub loop-i-init : goal.loop-i-init
loop-i-init c = (search rules, run_begin c.args.a.now c.args.b.now c.args.at c.requires)

pub returns-then-symbol-b : goal.returns-then-symbol-b
returns-then-symbol-b c = let l = c.loop-i in sym (l.invariant.1 ∙ run_off c.args.a.now c.args.b.now c.args.at c.requires l.i (omega arith) c.if-symbol-b.true)

pub loop-i-preserved : goal.loop-i-preserved
loop-i-preserved c = let l = c.loop-i in (omega arith, l.invariant.1 ∙ run_on c.args.a.now c.args.b.now c.args.at c.requires l.i (omega arith) c.if-symbol-b.false)

pub returns : goal.returns
returns c = let l = c.loop-i in sym (l.invariant.1 ∙ run_end c.args.a.now c.args.b.now c.args.at c.requires l.i (omega arith))
