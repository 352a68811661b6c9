-- `fitting::same_by` meets its contract: the symbols from i on decide.
-- Assumes nothing.
use mathlib.Core.Path.{sym, ◌∙◌}
use native.Mathlib.Omega.{arith}
use Rattle.classes.specs.Masks.{classes_in}
use Rattle.fitting.proofs.Members.{by_begin, by_on, by_off, by_end}
use Rattle.fitting.proofs.same_by.Goals as goal

pub loop-i-init : goal.loop-i-init
loop-i-init c = by_begin (classes_in c.args.masks.now) c.args.context.now c.args.frame.now c.args.at c.requires.1

pub returns-then-not-stands_for : goal.returns-then-not-stands_for
returns-then-not-stands_for c = let l = c.loop-i in
    sym (l.invariant ∙ by_off (classes_in c.args.masks.now) c.args.context.now c.args.frame.now c.args.at c.requires.1 l.i (omega arith) (sym c.stands_for.ensures ∙ c.if-not-stands_for.true))

pub loop-i-preserved : goal.loop-i-preserved
loop-i-preserved c = let l = c.loop-i in
    l.invariant ∙ by_on (classes_in c.args.masks.now) c.args.context.now c.args.frame.now c.args.at c.requires.1 l.i (omega arith) (sym c.stands_for.ensures ∙ c.if-not-stands_for.false)

pub returns : goal.returns
returns c = let l = c.loop-i in
    sym (l.invariant ∙ by_end (classes_in c.args.masks.now) c.args.context.now c.args.frame.now c.args.at c.requires.1 l.i (omega arith))
