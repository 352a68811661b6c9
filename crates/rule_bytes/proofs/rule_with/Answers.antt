-- `rule_bytes::rule_with` meets its contract: each array is filled with its field.
-- Assumes nothing.
use mathlib.Core.Path.{◌∙◌}
use Rattle.rules.specs.Limits.{max_context, max_target, max_phones}
use Rattle.rule_bytes.proofs.Copies.{first_over}
use Rattle.rule_bytes.proofs.rule_with.Goals as goal

pub returns : goal.returns
returns c = cc (c.fill.ensures ∙ first_over max_context c.args.left.now, c.fill-2.ensures ∙ first_over max_target c.args.target.now, c.fill-3.ensures ∙ first_over max_context c.args.right.now, c.fill-4.ensures ∙ first_over max_phones c.args.phones.now)
