-- `file::parsing::is_rule` meets its contract: the tests in turn.
-- Assumes nothing.
use borrow.Author.Rules.{rules}
use Rattle.file.proofs.Parts.{rule_short, rule-type, rule_length}
use Rattle.file.proofs.parsing.is_rule.Goals as goal

pub returns-then-f-le-FRONT : goal.returns-then-f-le-FRONT
returns-then-f-le-FRONT c = rule_short c.args.f.now c.if-f-le-FRONT.true

pub returns-then-f-ne-RULE_TYPE : goal.returns-then-f-ne-RULE_TYPE
returns-then-f-ne-RULE_TYPE c = rule-type c.args.f.now c.if-f-ne-RULE_TYPE.true

pub returns : goal.returns
returns c = rule_length c.args.f.now c.if-f-ne-RULE_TYPE.false c.if-f-le-FRONT.false c.body_size.result c.body_size.ensures
