-- `edits::set_class` meets its contract.
-- Assumes nothing.
use mathlib.Core.Path.{sym, ◌∙◌}
use Rattle.image.proofs.Tests.{valid_long}
use Rattle.edits.proofs.Answers.{invalid, set_low, set_high, set_letters, set_used, set_yes}
use Rattle.edits.proofs.set_class.Goals as goal

pub returns-then-not-is_ruleset : goal.returns-then-not-is_ruleset
returns-then-not-is_ruleset c = invalid c.args.image.now _ (sym c.is_ruleset.ensures ∙ c.if-not-is_ruleset.true)

pub returns-then-symbol-lt-FIRST_CLASS : goal.returns-then-symbol-lt-FIRST_CLASS
returns-then-symbol-lt-FIRST_CLASS c = set_low c.args.image.now (sym c.is_ruleset.ensures ∙ c.if-not-is_ruleset.false) c.args.symbol c.args.letters.now c.if-symbol-lt-FIRST_CLASS.true

pub returns-then-symbol-gt-MAX_SYMBOL : goal.returns-then-symbol-gt-MAX_SYMBOL
returns-then-symbol-gt-MAX_SYMBOL c = set_high c.args.image.now (sym c.is_ruleset.ensures ∙ c.if-not-is_ruleset.false) c.args.symbol c.args.letters.now c.if-symbol-lt-FIRST_CLASS.false c.if-symbol-gt-MAX_SYMBOL.true

pub returns-in_default : goal.returns-in_default
returns-in_default c = set_letters c.args.image.now (sym c.is_ruleset.ensures ∙ c.if-not-is_ruleset.false) c.args.symbol c.args.letters.now c.if-symbol-lt-FIRST_CLASS.false c.if-symbol-gt-MAX_SYMBOL.false (sym c.in_default.is ∙ c.class_mask.ensures)

pub returns-then-in_use : goal.returns-then-in_use
returns-then-in_use c = set_used c.args.image.now (sym c.is_ruleset.ensures ∙ c.if-not-is_ruleset.false) c.args.symbol c.args.letters.now c.if-symbol-lt-FIRST_CLASS.false c.if-symbol-gt-MAX_SYMBOL.false _ (sym c.in-Some.is ∙ c.class_mask.ensures) _ c.in_use.ensures c.if-in_use.true

pub put_class-requires : goal.put_class-requires
put_class-requires c = (valid_long c.args.image.now (sym c.is_ruleset.ensures ∙ c.if-not-is_ruleset.false), (c.if-symbol-lt-FIRST_CLASS.false, c.if-symbol-gt-MAX_SYMBOL.false))

pub returns : goal.returns
returns c = set_yes c.args.image.now (sym c.is_ruleset.ensures ∙ c.if-not-is_ruleset.false) c.args.symbol c.args.letters.now c.if-symbol-lt-FIRST_CLASS.false c.if-symbol-gt-MAX_SYMBOL.false _ (sym c.in-Some.is ∙ c.class_mask.ensures) _ c.in_use.ensures c.if-in_use.false _ c.put_class.ensures
