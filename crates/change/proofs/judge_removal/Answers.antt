-- `change::judge_removal` meets its contract: 17 of the list, 2 and 1, 18.
-- Assumes nothing.
use Rattle.std.proofs.lemmas.Result.{err_from_is_err_and}
use mathlib.Core.Path.{sym, ap, ◌∙◌}
use mathlib.Core.Bool.{true, false}
use borrow.Author.Rules.{rules}
use Rattle.change.proofs.Judgement.{list_refused, list_good, front_long, front_asks, front_unlisted, removal_refused, removal_judged}
use Rattle.exceptions.proofs.Sizes.{size_is}
use Rattle.rules.specs.Refusals.{reply_of}
use Rattle.change.proofs.judge_removal.Goals as goal

pub returns-then-not-is_list : goal.returns-then-not-is_list
returns-then-not-is_list c = list_refused _ _ _ c.is_list.ensures c.if-not-is_list.true-raw

pub slice_bounds-unlisted-end : goal.slice_bounds-unlisted-end
slice_bounds-unlisted-end c = front_long c.args.list.now c.args.name.now 35886 (sym size_is) (list_good _ _ c.is_list.ensures c.if-not-is_list.false-raw)

pub unlisted-requires : goal.unlisted-requires
unlisted-requires c = front_asks _ _ 35886 (sym size_is) (list_good _ _ c.is_list.ensures c.if-not-is_list.false-raw) (sym (ap reply_of c.in_ok-judge_name.was) ∙ c.judge_name.ensures)

pub returns-then-unlisted : goal.returns-then-unlisted
returns-then-unlisted c = let l = list_good _ _ c.is_list.ensures c.if-not-is_list.false-raw in
    let s = sym (ap reply_of c.in_ok-judge_name.was) ∙ c.judge_name.ensures in
    removal_judged _ _ _ true l s (front_unlisted _ _ 35886 (sym size_is) l s _ c.unlisted.ensures) c.if-unlisted.true

pub returns-in_err-judge_name : goal.returns-in_err-judge_name
returns-in_err-judge_name c = let p = err_from_is_err_and c.from_residual.result c.from_residual.ensures.1 in rw (p.1, p.2) (removal_refused _ _ _ _ (list_good _ _ c.is_list.ensures c.if-not-is_list.false-raw) (sym (ap reply_of c.in_err-judge_name.was) ∙ c.judge_name.ensures))

pub returns : goal.returns
returns c = let l = list_good _ _ c.is_list.ensures c.if-not-is_list.false-raw in
    let s = sym (ap reply_of c.in_ok-judge_name.was) ∙ c.judge_name.ensures in
    removal_judged _ _ _ false l s (front_unlisted _ _ 35886 (sym size_is) l s _ c.unlisted.ensures) c.if-unlisted.false
