-- `rules::is_symbol` meets its contract.
-- Assumes nothing.
use borrow.Author.Tests.{le-leb, lt-leb}
use Rattle.rules.proofs.is_symbol.Goals as goal

pub returns-then-c-le-MAX_SYMBOL : goal.returns-then-c-le-MAX_SYMBOL
returns-then-c-le-MAX_SYMBOL c = rw (le-leb _ _ c.if-c-le-MAX_SYMBOL.true)

pub returns-else-c-le-MAX_SYMBOL : goal.returns-else-c-le-MAX_SYMBOL
returns-else-c-le-MAX_SYMBOL c = rw (lt-leb _ _ c.if-c-le-MAX_SYMBOL.false)
