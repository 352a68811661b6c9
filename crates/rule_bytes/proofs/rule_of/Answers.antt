-- `rule_bytes::rule_of` meets its contract: the parts of its bytes are its fields.
-- Assumes nothing.
use mathlib.Core.Path.{◌∙◌}
use Rattle.rule_bytes.proofs.Fields.{rule_is}
use Rattle.rule_bytes.proofs.rule_of.Goals as goal

pub returns : goal.returns
returns c = c.rule_from.ensures ∙ rule_is c.args.s.now c.requires
