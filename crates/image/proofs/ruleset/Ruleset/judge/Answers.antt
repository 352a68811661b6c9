-- `image::ruleset::Ruleset::judge` meets its contract: what `is_ruleset` says is what validity is.
-- Assumes nothing.
use mathlib.Core.Path.{sym, ◌∙◌}
use Rattle.image.proofs.ruleset.Ruleset.judge.Goals as goal

pub returns-then-not-is_ruleset : goal.returns-then-not-is_ruleset
returns-then-not-is_ruleset c = sym c.is_ruleset.ensures ∙ c.if-not-is_ruleset.true

pub invariant_of-result : goal.invariant_of-result
invariant_of-result c = record { sound = sym c.is_ruleset.ensures ∙ c.if-not-is_ruleset.false }
