-- `edits::add_rule` meets its contract.
-- Assumes nothing.
use Rattle.std.proofs.lemmas.Result.{err_from_is_err_and}
use mathlib.Core.Path.{sym, ap, ◌∙◌}
use native.Mathlib.Omega.{arith}
use borrow.Author.Rules.{rules}
use Rattle.rules.specs.Refusals.{reply_of}
use Rattle.image.proofs.Tests.{valid_long}
use Rattle.rule_bytes.specs.RuleBytes.{Filled}
use Rattle.edits.proofs.Answers.{invalid, add_no, add_below, add_room, add_sound, add_yes}
use Rattle.edits.proofs.add_rule.Goals as goal

pub returns-then-not-is_ruleset : goal.returns-then-not-is_ruleset
returns-then-not-is_ruleset c = invalid c.args.image.now _ (sym c.is_ruleset.ensures ∙ c.if-not-is_ruleset.true)

pub returns-in_err-judge_add : goal.returns-in_err-judge_add
returns-in_err-judge_add c = let p = err_from_is_err_and c.from_residual.result c.from_residual.ensures.1 in rw (p.1, p.2) (add_no c.args.image.now (sym c.is_ruleset.ensures ∙ c.if-not-is_ruleset.false) c.args.rule c.args.p _ c.judge_add.ensures _ _ (ap reply_of c.in_err-judge_add.was))

pub last_issued-last-requires : goal.last_issued-last-requires
last_issued-last-requires c = valid_long c.args.image.now (sym c.is_ruleset.ensures ∙ c.if-not-is_ruleset.false)

pub overflow_add-number : goal.overflow_add-number
overflow_add-number c = omega (arith, add_below c.args.image.now (sym c.is_ruleset.ensures ∙ c.if-not-is_ruleset.false) c.args.rule c.args.p _ c.judge_add.ensures (ap reply_of c.in_ok-judge_add.was), c.last_issued-last.ensures)

pub insert-requires : goal.insert-requires
insert-requires c = (valid_long c.args.image.now (sym c.is_ruleset.ensures ∙ c.if-not-is_ruleset.false), add_room c.args.image.now (sym c.is_ruleset.ensures ∙ c.if-not-is_ruleset.false) c.args.rule c.args.p _ c.judge_add.ensures (ap reply_of c.in_ok-judge_add.was))

pub settle-requires : goal.settle-requires
settle-requires c = (let full : Filled c.args.rule = (search rules, (search rules, (search rules, search rules))) in add_sound c.args.image.now (sym c.is_ruleset.ensures ∙ c.if-not-is_ruleset.false) c.args.rule c.args.p _ c.judge_add.ensures (ap reply_of c.in_ok-judge_add.was) full _ c.last_issued-last.ensures _ c.insert.ensures)

pub returns : goal.returns
returns c = let full : Filled c.args.rule = (search rules, (search rules, (search rules, search rules))) in add_yes c.args.image.now (sym c.is_ruleset.ensures ∙ c.if-not-is_ruleset.false) c.args.rule c.args.p _ c.judge_add.ensures (ap reply_of c.in_ok-judge_add.was) full _ c.last_issued-last.ensures _ c.insert.ensures _ c.settle.ensures
