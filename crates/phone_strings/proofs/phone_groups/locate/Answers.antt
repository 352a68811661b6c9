-- `phone_groups::locate` meets its contract: three phones in each cell but the last.
-- Assumes nothing.
use Rattle.phone_strings.proofs.Counted.{none_held, last_some, phones_held}
use borrow.Author.Rules.{rules}
use Rattle.phone_strings.proofs.phone_groups.locate.Goals as goal

pub returns-then-from-to : goal.returns-then-from-to
returns-then-from-to c = none_held _ _ _ _ _ c.requires.0 c.cells-s.ensures c.if-from-to.true

pub last_bytes-size-requires : goal.last_bytes-size-requires
last_bytes-size-requires c = (last_some _ _ _ _ _ c.requires.0 c.cells-s.ensures c.if-from-to.false _ c.val-last.ensures.0, c.val-last.ensures.1)

pub returns : goal.returns
returns c = phones_held _ _ _ _ _ c.requires.0 c.cells-s.ensures c.if-from-to.false _ c.val-last.ensures.0 c.requires.1 _ c.last_bytes-size.ensures
