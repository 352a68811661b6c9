-- `change::add_name` meets its contract: a refusal leaves every word; past it, the change and the limits.
-- Assumes nothing.
use Rattle.std.proofs.lemmas.Result.{err_from_is_err_and}
use mathlib.Core.Path.{sym, ap, ◌∙◌}
use borrow.Author.Rules.{rules}
use Rattle.change.proofs.Judgement.{addition_asks, call_refused, call_changed}
use Rattle.rules.specs.Refusals.{reply_of}
use Rattle.change.proofs.add_name.Goals as goal

pub change_list-requires : goal.change_list-requires
change_list-requires c = addition_asks _ _ _ (sym (ap reply_of c.in_ok-judge_addition.was) ∙ c.judge_addition.ensures)

pub returns-in_err-judge_addition : goal.returns-in_err-judge_addition
returns-in_err-judge_addition c = let p = err_from_is_err_and c.from_residual.result c.from_residual.ensures.1 in rw (p.1, p.2) (call_refused _ _ _ _ (sym (ap reply_of c.in_err-judge_addition.was) ∙ c.judge_addition.ensures))

pub returns : goal.returns
returns c = call_changed _ _ _ _ (sym (ap reply_of c.in_ok-judge_addition.was) ∙ c.judge_addition.ensures) c.change_list.ensures
