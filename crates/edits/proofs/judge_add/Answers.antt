-- `edits::judge_add` meets its contract.
-- Assumes nothing.
use mathlib.Core.Path.{sym, ◌∙◌}
use native.Mathlib.Omega.{arith}
use Rattle.image.proofs.Literals.{total_few}
use Rattle.image.proofs.Tests.{valid_long}
use Rattle.image.specs.Image.{ledger_of}
use Rattle.edits.proofs.Judging.{add_shape, add_class, add_place, add_full, add_last, add_spent, add_accepted, count-is, total_is}
use Rattle.edits.proofs.judge_add.Goals as goal

pub returns-then-not-well_shaped : goal.returns-then-not-well_shaped
returns-then-not-well_shaped c = add_shape (ledger_of c.args.rules.bytes.now) c.args.rule c.args.p (sym c.well_shaped.ensures ∙ c.if-not-well_shaped.true)

pub literals_of-n-requires : goal.literals_of-n-requires
literals_of-n-requires c = (valid_long c.args.rules.bytes.now c.args.rules.sound, sym c.well_shaped.ensures ∙ c.if-not-well_shaped.false)

pub returns-then-n-eq0 : goal.returns-then-n-eq0
returns-then-n-eq0 c = add_class (ledger_of c.args.rules.bytes.now) c.args.rule c.args.p (sym c.well_shaped.ensures ∙ c.if-not-well_shaped.false) _ c.literals_of-n.ensures.0 c.if-n-eq0.true

pub returns-then-rule_count-p : goal.returns-then-rule_count-p
returns-then-rule_count-p c = add_place (ledger_of c.args.rules.bytes.now) c.args.rule c.args.p (sym c.well_shaped.ensures ∙ c.if-not-well_shaped.false) _ c.literals_of-n.ensures.0 c.if-n-eq0.false _ (c.rule_count.ensures ∙ count-is c.args.rules.bytes.now) c.if-rule_count-p.true

pub overflow_add-literal_total : goal.overflow_add-literal_total
overflow_add-literal_total c = omega (arith, total_few _ c.args.rules.sound, c.literal_total.ensures, c.literals_of-n.ensures.1)

pub returns-then-literal_total-n-gt-MAX_RULES : goal.returns-then-literal_total-n-gt-MAX_RULES
returns-then-literal_total-n-gt-MAX_RULES c = add_full (ledger_of c.args.rules.bytes.now) c.args.rule c.args.p (sym c.well_shaped.ensures ∙ c.if-not-well_shaped.false) _ c.literals_of-n.ensures.0 c.if-n-eq0.false _ (c.rule_count.ensures ∙ count-is c.args.rules.bytes.now) c.if-rule_count-p.false _ (c.literal_total.ensures ∙ total_is c.args.rules.bytes.now c.args.rules.sound) c.if-literal_total-n-gt-MAX_RULES.true

pub returns-then-last_issued-ge-MAX_NUMBER : goal.returns-then-last_issued-ge-MAX_NUMBER
returns-then-last_issued-ge-MAX_NUMBER c = add_last (ledger_of c.args.rules.bytes.now) c.args.rule c.args.p (sym c.well_shaped.ensures ∙ c.if-not-well_shaped.false) _ c.literals_of-n.ensures.0 c.if-n-eq0.false _ (c.rule_count.ensures ∙ count-is c.args.rules.bytes.now) c.if-rule_count-p.false _ (c.literal_total.ensures ∙ total_is c.args.rules.bytes.now c.args.rules.sound) c.if-literal_total-n-gt-MAX_RULES.false _ c.last_issued.ensures c.if-last_issued-ge-MAX_NUMBER.true

pub returns-then-edit_count-ge-MAX_EDITS : goal.returns-then-edit_count-ge-MAX_EDITS
returns-then-edit_count-ge-MAX_EDITS c = add_spent (ledger_of c.args.rules.bytes.now) c.args.rule c.args.p (sym c.well_shaped.ensures ∙ c.if-not-well_shaped.false) _ c.literals_of-n.ensures.0 c.if-n-eq0.false _ (c.rule_count.ensures ∙ count-is c.args.rules.bytes.now) c.if-rule_count-p.false _ (c.literal_total.ensures ∙ total_is c.args.rules.bytes.now c.args.rules.sound) c.if-literal_total-n-gt-MAX_RULES.false _ c.last_issued.ensures c.if-last_issued-ge-MAX_NUMBER.false _ c.edit_count.ensures c.if-edit_count-ge-MAX_EDITS.true

pub returns : goal.returns
returns c = add_accepted (ledger_of c.args.rules.bytes.now) c.args.rule c.args.p (sym c.well_shaped.ensures ∙ c.if-not-well_shaped.false) _ c.literals_of-n.ensures.0 c.if-n-eq0.false _ (c.rule_count.ensures ∙ count-is c.args.rules.bytes.now) c.if-rule_count-p.false _ (c.literal_total.ensures ∙ total_is c.args.rules.bytes.now c.args.rules.sound) c.if-literal_total-n-gt-MAX_RULES.false _ c.last_issued.ensures c.if-last_issued-ge-MAX_NUMBER.false _ c.edit_count.ensures c.if-edit_count-ge-MAX_EDITS.false
