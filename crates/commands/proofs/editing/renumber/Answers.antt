-- `commands::editing::renumber` meets its contract: the number of a place that there is, or nothing.
-- Assumes nothing.
use borrow.Author.Tests.{lt-ltb, le-ltb}
use Rattle.rules.specs.Limits.{max_rules}
use borrow.Author.Rules.{rules}
use Rattle.commands.proofs.editing.renumber.Goals as goal

pub returns-then-place-lt-MAX_RULES : goal.returns-then-place-lt-MAX_RULES
returns-then-place-lt-MAX_RULES c = rw (lt-ltb c.args.place max_rules c.if-place-lt-MAX_RULES.true) c.put_number.ensures

pub returns-else-place-lt-MAX_RULES : goal.returns-else-place-lt-MAX_RULES
returns-else-place-lt-MAX_RULES c = rw (le-ltb c.args.place max_rules c.if-place-lt-MAX_RULES.false)
