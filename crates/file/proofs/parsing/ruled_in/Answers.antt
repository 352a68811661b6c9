-- `file::parsing::ruled_in` meets its contract: the tests in turn.
-- Assumes nothing.
use mathlib.Core.Path.{sym, ◌∙◌}
use Rattle.file.proofs.Parts.{ruled_not, ruled_shape, ruled_low, ruled_high, ruled_ok}
use Rattle.file.proofs.parsing.ruled_in.Goals as goal

pub returns-then-not-is_rule : goal.returns-then-not-is_rule
returns-then-not-is_rule c = ruled_not c.args.last c.args.f.now (sym c.is_rule.ensures ∙ c.if-not-is_rule.true)

pub entry_in-entry-requires : goal.entry_in-entry-requires
entry_in-entry-requires c = sym c.is_rule.ensures ∙ c.if-not-is_rule.false

pub returns-then-not-well_shaped : goal.returns-then-not-well_shaped
returns-then-not-well_shaped c = ruled_shape c.args.last c.args.f.now (sym c.is_rule.ensures ∙ c.if-not-is_rule.false) c.entry_in-entry.result c.entry_in-entry.ensures (sym c.well_shaped.ensures ∙ c.if-not-well_shaped.true)

pub returns-then-entry-lt1 : goal.returns-then-entry-lt1
returns-then-entry-lt1 c = ruled_low c.args.last c.args.f.now (sym c.is_rule.ensures ∙ c.if-not-is_rule.false) c.entry_in-entry.result c.entry_in-entry.ensures (sym c.well_shaped.ensures ∙ c.if-not-well_shaped.false) c.if-entry-lt1.true

pub returns-then-last-entry : goal.returns-then-last-entry
returns-then-last-entry c = ruled_high c.args.last c.args.f.now (sym c.is_rule.ensures ∙ c.if-not-is_rule.false) c.entry_in-entry.result c.entry_in-entry.ensures (sym c.well_shaped.ensures ∙ c.if-not-well_shaped.false) c.if-entry-lt1.false c.if-last-entry.true

pub returns : goal.returns
returns c = ruled_ok c.args.last c.args.f.now (sym c.is_rule.ensures ∙ c.if-not-is_rule.false) c.entry_in-entry.result c.entry_in-entry.ensures (sym c.well_shaped.ensures ∙ c.if-not-well_shaped.false) c.if-entry-lt1.false c.if-last-entry.false
