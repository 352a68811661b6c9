-- `image::is_ruleset` meets its contract: the tests of a ruleset, in turn.
-- Assumes nothing.
use mathlib.Core.Path.{sym, ◌∙◌}
use native.Mathlib.Omega.{arith}
use Rattle.image.proofs.Lent.{masks_long}
use Rattle.image.proofs.Tests.{entries_by, slots_by, classes_by, too_short, too_many, not_entries, not_distinct, not_classes, by_table}
use Rattle.image.proofs.is_ruleset.Goals as goal

pub returns-then-image-lt-SIZE : goal.returns-then-image-lt-SIZE
returns-then-image-lt-SIZE c = too_short c.args.image.now c.if-image-lt-SIZE.true

pub returns-then-count-gt-MAX_RULES : goal.returns-then-count-gt-MAX_RULES
returns-then-count-gt-MAX_RULES c = too_many c.args.image.now (omega arith) (omega (arith, c.rule_count-count.ensures.0))

pub returns-then-not-entries_valid : goal.returns-then-not-entries_valid
returns-then-not-entries_valid c = not_entries c.args.image.now (omega arith) (omega (arith, c.rule_count-count.ensures.0)) (sym (entries_by c.args.image.now _ _ _ c.rule_count-count.ensures.0 c.last_issued-last.ensures c.entries_valid.ensures) ∙ c.if-not-entries_valid.true)

pub all_differ-requires : goal.all_differ-requires
all_differ-requires c = ((slots_by c.args.image.now _ _ _ (omega arith) c.rule_count-count.ensures.0 (omega arith) c.last_issued-last.ensures c.entries_valid.ensures (c.if-not-entries_valid.false)), (c.rule_count-count.ensures.0, c.last_issued-last.ensures))

pub returns-then-not-all_differ : goal.returns-then-not-all_differ
returns-then-not-all_differ c = not_distinct c.args.image.now (slots_by c.args.image.now _ _ _ (omega arith) c.rule_count-count.ensures.0 (omega arith) c.last_issued-last.ensures c.entries_valid.ensures (c.if-not-entries_valid.false)) (sym c.all_differ.ensures ∙ c.if-not-all_differ.true)

pub classes_shaped-requires : goal.classes_shaped-requires
classes_shaped-requires c = masks_long c.args.image.now (omega arith) _ c.masks.ensures

pub returns-then-not-classes_shaped : goal.returns-then-not-classes_shaped
returns-then-not-classes_shaped c = not_classes c.args.image.now (slots_by c.args.image.now _ _ _ (omega arith) c.rule_count-count.ensures.0 (omega arith) c.last_issued-last.ensures c.entries_valid.ensures (c.if-not-entries_valid.false)) (sym c.all_differ.ensures ∙ c.if-not-all_differ.false) (sym (classes_by c.args.image.now _ _ c.masks.ensures c.classes_shaped.ensures) ∙ c.if-not-classes_shaped.true)

pub is_table-requires : goal.is_table-requires
is_table-requires c = ((slots_by c.args.image.now _ _ _ (omega arith) c.rule_count-count.ensures.0 (omega arith) c.last_issued-last.ensures c.entries_valid.ensures (c.if-not-entries_valid.false)), c.rule_count-count.ensures.0)

pub returns : goal.returns
returns c = by_table c.args.image.now (slots_by c.args.image.now _ _ _ (omega arith) c.rule_count-count.ensures.0 (omega arith) c.last_issued-last.ensures c.entries_valid.ensures (c.if-not-entries_valid.false)) (sym c.all_differ.ensures ∙ c.if-not-all_differ.false) (sym (classes_by c.args.image.now _ _ c.masks.ensures c.classes_shaped.ensures) ∙ c.if-not-classes_shaped.false) _ c.is_table.ensures
