-- `history::coded_rule` meets its contract.
-- Assumes nothing.
use mathlib.Core.Path.{ap, ◌∙◌}
use Rattle.rule_bytes.specs.RuleBytes.{rule_of}
use Rattle.history.proofs.coded_rule.Goals as goal

pub returns : goal.returns
returns c = c.rule_of.ensures ∙ ap rule_of c.put_bytes.ensures
