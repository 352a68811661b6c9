-- `image::slot_of` meets its contract: the rule stands after the number.
-- Assumes nothing.
use mathlib.Core.Path.{ap, ◌∙◌}
use Rattle.rules.proofs.Memory.{tail_is}
use Rattle.rule_bytes.specs.RuleBytes.{rule_of}
use Rattle.image.specs.Image.{slot_of}
use Rattle.image.proofs.slot_of.Goals as goal

pub returns : goal.returns
unfolding slot_of
returns c = cc (c.two_at-number.ensures, c.rule_of-rule.ensures ∙ ap rule_of (tail_is 2 c.args.s.now))
