-- `literals::match_choice` meets its contract. The loop's invariant: from i on the letters are those of choice j, and q is left of j.
-- Assumes nothing.
use Prim.Native.Nat.{◌-◌}
use native.Mathlib.Omega.{arith}
use mathlib.Core.Path.{sym, ◌∙◌}
use Rattle.classes.specs.Masks.{classes_in}
use Rattle.classes.proofs.Ordinal.{size_at}
use Rattle.literals.proofs.Matching.{match_begin, match_next, match_off, match_end}
use Rattle.literals.proofs.match_choice.Goals as goal

pub loop-i-init : goal.loop-i-init
loop-i-init c = match_begin (classes_in c.args.masks.now) c.args.run.now c.requires.1.0 c.args.j c.args.frame.now c.args.to c.requires.1.1

pub bounds-run-i : goal.bounds-run-i
bounds-run-i c = omega (arith, c.loop-i.invariant.reached)

pub overflow_add-to : goal.overflow_add-to
overflow_add-to c = omega (arith, c.loop-i.invariant.reached, c.requires.1.1)

pub bounds-frame-to : goal.bounds-frame-to
bounds-frame-to c = omega (arith, c.loop-i.invariant.reached, c.requires.1.1)

pub step-requires : goal.step-requires
step-requires c = (c.requires.0, size_at (classes_in c.args.masks.now) c.args.run.now (c.loop-i.i - 1) c.requires.1.0 (omega (arith, c.loop-i.invariant.reached)))

pub returns-in_err-q : goal.returns-in_err-q
returns-in_err-q c = c.from_residual.ensures ∙ match_off (classes_in c.args.masks.now) c.args.run.now c.requires.1.0 c.args.j c.args.frame.now c.args.to c.requires.1.1 c.loop-i.q c.loop-i.i c.loop-i.invariant (omega arith) (sym c.step.ensures ∙ c.in_err-q.was)

pub loop-i-preserved : goal.loop-i-preserved
loop-i-preserved c = match_next (classes_in c.args.masks.now) c.args.run.now c.requires.1.0 c.args.j c.args.frame.now c.args.to c.requires.1.1 c.loop-i.q c.loop-i.i c.loop-i.invariant (omega arith) _ (sym c.step.ensures ∙ c.in_ok-q.was)

pub returns : goal.returns
returns c = match_end (classes_in c.args.masks.now) c.args.run.now c.requires.1.0 c.args.j c.args.frame.now c.args.to c.requires.1.1 c.loop-i.q c.loop-i.i c.loop-i.invariant (omega arith)
