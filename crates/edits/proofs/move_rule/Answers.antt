-- `edits::move_rule` meets its contract.
-- Assumes nothing.
use mathlib.Core.Path.{refl, sym, ◌∙◌}
use native.Mathlib.Omega.{arith}
use Rattle.image.proofs.Tests.{valid_long, valid_count}
use Rattle.edits.proofs.Answers.{invalid, move_none, move_place, move_spent, move_sound, move_yes}
use Rattle.edits.proofs.move_rule.Goals as goal

pub returns-then-not-is_ruleset : goal.returns-then-not-is_ruleset
returns-then-not-is_ruleset c = invalid c.args.image.now _ (sym c.is_ruleset.ensures ∙ c.if-not-is_ruleset.true)

pub rule_count-count-requires : goal.rule_count-count-requires
rule_count-count-requires c = valid_long c.args.image.now (sym c.is_ruleset.ensures ∙ c.if-not-is_ruleset.false)

pub place_of-requires : goal.place_of-requires
place_of-requires c = (omega (arith, c.rule_count-count.ensures.0, valid_count c.args.image.now (sym c.is_ruleset.ensures ∙ c.if-not-is_ruleset.false)), valid_long c.args.image.now (sym c.is_ruleset.ensures ∙ c.if-not-is_ruleset.false))

pub returns-in_default : goal.returns-in_default
returns-in_default c = move_none c.args.image.now (sym c.is_ruleset.ensures ∙ c.if-not-is_ruleset.false) _ c.rule_count-count.ensures.0 c.args.number _ refl c.args.p (omega (arith, c.in_default.ensures))

pub returns-then-count-p : goal.returns-then-count-p
returns-then-count-p c = move_place c.args.image.now (sym c.is_ruleset.ensures ∙ c.if-not-is_ruleset.false) _ c.rule_count-count.ensures.0 c.args.number _ c.in-Some.ensures.0 c.args.p c.in-Some.ensures.1 c.if-count-p.true

pub edit_count-requires : goal.edit_count-requires
edit_count-requires c = valid_long c.args.image.now (sym c.is_ruleset.ensures ∙ c.if-not-is_ruleset.false)

pub returns-then-edit_count-ge-MAX_EDITS : goal.returns-then-edit_count-ge-MAX_EDITS
returns-then-edit_count-ge-MAX_EDITS c = move_spent c.args.image.now (sym c.is_ruleset.ensures ∙ c.if-not-is_ruleset.false) _ c.rule_count-count.ensures.0 c.args.number _ c.in-Some.ensures.0 c.args.p c.in-Some.ensures.1 c.if-count-p.false _ c.edit_count.ensures c.if-edit_count-ge-MAX_EDITS.true

pub relocate-requires : goal.relocate-requires
relocate-requires c = (valid_long c.args.image.now (sym c.is_ruleset.ensures ∙ c.if-not-is_ruleset.false), (omega (arith, c.rule_count-count.ensures.0, c.in-Some.ensures.1), (omega (arith, c.rule_count-count.ensures.0, c.if-count-p.false), (valid_count c.args.image.now (sym c.is_ruleset.ensures ∙ c.if-not-is_ruleset.false), omega (arith, c.edit_count.ensures, c.if-edit_count-ge-MAX_EDITS.false)))))

pub settle-requires : goal.settle-requires
settle-requires c = move_sound c.args.image.now (sym c.is_ruleset.ensures ∙ c.if-not-is_ruleset.false) _ c.rule_count-count.ensures.0 c.args.number _ c.in-Some.ensures.0 c.args.p c.in-Some.ensures.1 c.if-count-p.false _ c.edit_count.ensures c.if-edit_count-ge-MAX_EDITS.false _ c.relocate.ensures

pub returns : goal.returns
returns c = move_yes c.args.image.now (sym c.is_ruleset.ensures ∙ c.if-not-is_ruleset.false) _ c.rule_count-count.ensures.0 c.args.number _ c.in-Some.ensures.0 c.args.p c.in-Some.ensures.1 c.if-count-p.false _ c.edit_count.ensures c.if-edit_count-ge-MAX_EDITS.false _ c.relocate.ensures _ c.settle.ensures
