-- `host::given::rule_in` meets its contract: the bytes of a rule are one, others are none.
-- Assumes nothing.
use mathlib.Core.Path.{◌∙◌}
use Rattle.host.proofs.Reports.{rule_yes, rule_no}
use borrow.Author.Rules.{rules}
use Rattle.host.proofs.given.rule_in.Goals as goal

pub returns-then-s-eq-SIZE : goal.returns-then-s-eq-SIZE
returns-then-s-eq-SIZE c = rule_yes _ _ c.rule_of.ensures c.if-s-eq-SIZE.true

pub returns : goal.returns
returns c = c.blank.ensures ∙ rule_no _ c.if-s-eq-SIZE.false
