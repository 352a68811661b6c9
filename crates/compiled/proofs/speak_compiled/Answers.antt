-- `compiled::speak_compiled` meets its contract: the image's test, the list's, then the name's walk.
-- Assumes nothing.
use mathlib.Core.Path.{sym, ◌∙◌}
use Rattle.compiled.proofs.Speaking.{walked_invalid, walked_none}
use Rattle.compiled.proofs.speak_compiled.Goals as goal

pub returns-then-not-is_ruleset : goal.returns-then-not-is_ruleset
returns-then-not-is_ruleset c = let a = c.args in
    walked_invalid _ a.image.now _ a.name.now a.phones.now a.numbers.now (sym c.is_ruleset.ensures ∙ c.if-not-is_ruleset.true) _ c.at_once.ensures

pub returns-then-not-is_list : goal.returns-then-not-is_list
returns-then-not-is_list c = let a = c.args in
    walked_none _ a.image.now a.list.now a.name.now a.phones.now a.numbers.now (sym c.is_ruleset.ensures ∙ c.if-not-is_ruleset.false) (sym c.is_list.ensures ∙ c.if-not-is_list.true) _ c.at_once-then-not-is_list.ensures

pub speak_known-requires : goal.speak_known-requires
speak_known-requires c = (sym c.is_ruleset.ensures ∙ c.if-not-is_ruleset.false, sym c.is_list.ensures ∙ c.if-not-is_list.false)
