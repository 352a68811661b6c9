-- `host::pirrozketa_check` meets its contract.
-- Assumes nothing.
use mathlib.Core.Path.{sym, ◌∙◌}
use mathlib.Core.Bool.{true, false}
use Rattle.host.proofs.Reports.{checked_is}
use borrow.Author.Rules.{rules}
use Rattle.host.proofs.pirrozketa_check.Goals as goal

pub returns-then-is_ruleset : goal.returns-then-is_ruleset
returns-then-is_ruleset c = sym (checked_is _ true (sym c.is_ruleset.ensures ∙ c.if-is_ruleset.true))

pub returns : goal.returns
returns c = sym (checked_is _ false (sym c.is_ruleset.ensures ∙ c.if-is_ruleset.false))
