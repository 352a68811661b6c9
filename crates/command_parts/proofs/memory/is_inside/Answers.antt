-- `command_parts::memory::is_inside` meets its contract: the end of the part is not past the last element.
-- Assumes nothing.
use borrow.Author.Tests.{eq-eqb, ne_eqb}
use lib.ListN.{length}
use Rattle.command_parts.proofs.memory.is_inside.Goals as goal

pub returns-then-f-ne6 : goal.returns-then-f-ne6
returns-then-f-ne6 c = rw (ne_eqb (length c.args.f.now) 6 c.if-f-ne6.true)

pub returns : goal.returns
returns c = rw (eq-eqb (length c.args.f.now) 6 c.if-f-ne6.false) (cc (c.from.ensures, c.four_at.ensures.0))
