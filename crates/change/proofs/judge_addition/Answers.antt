-- `change::judge_addition` meets its contract: 17 of the list, 2 and 1, 17 of the entry.
-- Assumes nothing.
use Rattle.std.proofs.lemmas.Result.{err_from_is_err_and}
use mathlib.Core.Path.{sym, ap, ◌∙◌}
use mathlib.Core.Bool.{true, false}
use borrow.Author.Rules.{rules}
use Rattle.change.proofs.Judgement.{list_refused, list_good, addition_refused, addition_judged}
use Rattle.rules.specs.Refusals.{reply_of}
use Rattle.change.proofs.judge_addition.Goals as goal

pub returns-then-not-is_list : goal.returns-then-not-is_list
returns-then-not-is_list c = list_refused _ _ _ c.is_list.ensures c.if-not-is_list.true-raw

pub returns : goal.returns
returns c = addition_judged _ _ _ _ true (list_good _ _ c.is_list.ensures c.if-not-is_list.false-raw) (sym (ap reply_of c.in_ok-judge_name.was) ∙ c.judge_name.ensures) c.is_entry.ensures c.if-not-is_entry.false

pub returns-in_err-judge_name : goal.returns-in_err-judge_name
returns-in_err-judge_name c = let p = err_from_is_err_and c.from_residual.result c.from_residual.ensures.1 in rw (p.1, p.2) (addition_refused _ _ _ _ _ (list_good _ _ c.is_list.ensures c.if-not-is_list.false-raw) (sym (ap reply_of c.in_err-judge_name.was) ∙ c.judge_name.ensures))

pub returns-then-not-is_entry : goal.returns-then-not-is_entry
returns-then-not-is_entry c = addition_judged _ _ _ _ false (list_good _ _ c.is_list.ensures c.if-not-is_list.false-raw) (sym (ap reply_of c.in_ok-judge_name.was) ∙ c.judge_name.ensures) c.is_entry.ensures c.if-not-is_entry.true
