-- `rules::is_left_context` meets its contract.
-- Assumes nothing.
use mathlib.Core.Path.{sym, ◌∙◌}
use Rattle.rules.proofs.is_left_context.Goals as goal

pub returns-then-is_symbol : goal.returns-then-is_symbol
returns-then-is_symbol c = rw (c.in-Some.ensures.cases.0, sym c.is_symbol.ensures ∙ c.if-is_symbol.true) c.all_symbols.ensures

pub returns-else-is_symbol : goal.returns-else-is_symbol
returns-else-is_symbol c = rw (c.in-Some.ensures.cases.0, sym c.is_symbol.ensures ∙ c.if-is_symbol.false) c.if-is_symbol.false
