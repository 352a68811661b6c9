-- `file::loading::judge_rules` meets its contract. The loop's invariant: the lines from here on decide the whole, the set holds the numbers so far, and their literal rules are counted.
-- Assumes nothing.
use mathlib.Core.Path.{sym, ap, ◌∙◌}
use Rattle.std.proofs.lemmas.Result.{err_from_is_err_and}
use lib.ListN.{length, length-set}
use Rattle.classes.specs.Masks.{classes_in}
use Rattle.file.proofs.Judging.{or_refused, or_counted, judged_start, judged_refused, judged_again, judged_shape, judged_literals, judged-next, judged_over, judged_done, seen_length}
use borrow.Author.Rules.{rules}
use Rattle.file.proofs.loading.judge_rules.Goals as goal

pub loop-init : goal.loop-init
loop-init c = let a = c.args in judged_start a.file.now a.from a.count a.last (classes_in a.masks.now) a.seen.now c.requires.1.1 c.requires.0

pub returns-in_err-line : goal.returns-in_err-line
returns-in_err-line c =
    let a = c.args in
    let l = c.loop in
    let p = err_from_is_err_and c.from_residual.result c.from_residual.ensures.1 in rw (p.1, p.2) (judged_refused a.file.now a.from a.count a.last (classes_in a.masks.now) l.seen l.at l.total l.counter l.invariant c.loop-test.true c.in_err-line.field-0.0 c.in_err-line.ensures)

pub mark-requires : goal.mark-requires
mark-requires c = c.loop.invariant.width

pub shape_of-seen-then-mark : goal.shape_of-seen-then-mark
shape_of-seen-then-mark c = let a = c.args in let l = c.loop in ap length c.mark.ensures.now ∙ (length-set l.seen _ _ ∙ seen_length a.file.now a.from a.count a.last (classes_in a.masks.now) l.seen l.at l.total l.counter l.invariant a.seen.now c.requires.1.1)

pub returns-then-mark : goal.returns-then-mark
returns-then-mark c = let a = c.args in let l = c.loop in judged_again a.file.now a.from a.count a.last (classes_in a.masks.now) l.seen l.at l.total l.counter l.invariant c.loop-test.true c.in_ok-line.line c.in_ok-line.ensures (search rules) (sym c.mark.ensures.was ∙ c.if-mark.true)

pub total_with-requires : goal.total_with-requires
total_with-requires c = (c.loop.invariant.few, (c.requires.1.0, let a = c.args in let l = c.loop in judged_shape a.file.now a.from a.count a.last (classes_in a.masks.now) l.seen l.at l.total l.counter l.invariant c.loop-test.true c.in_ok-line.line c.in_ok-line.ensures))

pub returns-in_err-total : goal.returns-in_err-total
returns-in_err-total c =
    let a = c.args in
    let l = c.loop in
    let t = or_refused _ _ _ (sym c.in_err-total.was ∙ c.ok_or.ensures.value) in
    let p = err_from_is_err_and c.from_residual-in_err-total.result c.from_residual-in_err-total.ensures.1 in rw (p.1, p.2) (rw t.0 (judged_literals a.file.now a.from a.count a.last (classes_in a.masks.now) l.seen l.at l.total l.counter l.invariant c.loop-test.true c.in_ok-line.line c.in_ok-line.ensures (sym t.1 ∙ c.total_with.ensures.0)))

pub loop-preserved : goal.loop-preserved
loop-preserved c =
    let a = c.args in
    let l = c.loop in
    judged-next a.file.now a.from a.count a.last (classes_in a.masks.now) l.seen l.at l.total l.counter l.invariant c.loop-test.true c.in_ok-line.line c.in_ok-line.ensures (search rules) (sym c.mark.ensures.was ∙ c.if-mark.false) _ c.mark.ensures.now c.in_ok-total.total
    (sym (or_counted _ _ _ (sym c.in_ok-total.was ∙ c.ok_or.ensures.value)) ∙ c.total_with.ensures.0)

pub shape_of-seen-then-at-file : goal.shape_of-seen-then-at-file
shape_of-seen-then-at-file c = let a = c.args in let l = c.loop in seen_length a.file.now a.from a.count a.last (classes_in a.masks.now) l.seen l.at l.total l.counter l.invariant a.seen.now c.requires.1.1

pub returns-then-at-file : goal.returns-then-at-file
returns-then-at-file c = let a = c.args in let l = c.loop in judged_over a.file.now a.from a.count a.last (classes_in a.masks.now) l.seen l.at l.total l.counter l.invariant c.loop-test.false c.if-at-file.true

pub shape_of-seen : goal.shape_of-seen
shape_of-seen c = let a = c.args in let l = c.loop in seen_length a.file.now a.from a.count a.last (classes_in a.masks.now) l.seen l.at l.total l.counter l.invariant a.seen.now c.requires.1.1

pub returns : goal.returns
returns c = let a = c.args in let l = c.loop in judged_done a.file.now a.from a.count a.last (classes_in a.masks.now) l.seen l.at l.total l.counter l.invariant c.loop-test.false c.if-at-file.false
