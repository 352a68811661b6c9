-- The first number, or the second where the first is 0.
-- Assumes nothing.
use borrow.Author.Tests.{ne_eqb}
use Rattle.side.proofs.or_else.Goals as goal

pub returns-then-x-eq0 : goal.returns-then-x-eq0
returns-then-x-eq0 c = rw c.if-x-eq0.true

pub returns-else-x-eq0 : goal.returns-else-x-eq0
returns-else-x-eq0 c = rw (ne_eqb _ _ c.if-x-eq0.false)
