-- Refusal 0, or what a build of a ruleset gives.
-- Assumes nothing.
use Prim.Native.Nat.{ℕ}
use mathlib.Core.List.{List}
use mathlib.Core.Path.{ap, ◌∙◌}
use Rattle.tables.specs.Words.{built}
use Rattle.build.proofs.Whole.{no_ruleset, is-ruleset}
use Rattle.build.proofs.build.Goals as goal

pub returns-in_default : goal.returns-in_default
returns-in_default c = no_ruleset _ _ _ c.in_default.ensures

pub returns : goal.returns
returns c = c.build_valid.ensures ∙ (is-ruleset _ _ _ c.in-Some.rules.sound ∙ ap (λ (d : List ℕ). built d c.args.words.now c.args.sets.now) c.in-Some.ensures)
