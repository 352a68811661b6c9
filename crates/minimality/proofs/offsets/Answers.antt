-- `minimality::offsets` meets its contract.
-- Assumes nothing.
use mathlib.Core.Path.{refl}
use Rattle.minimality.proofs.Good.{offsets_no_start, offsets_no_blank, offsets_no_end, offsets_decided}
use Rattle.minimality.proofs.offsets.Goals as goal

pub returns-then-words-ne-FIRST_CELL : goal.returns-then-words-ne-FIRST_CELL
returns-then-words-ne-FIRST_CELL c = offsets_no_start _ _ c.if-words-ne-FIRST_CELL.true

pub returns-then-words-ne-FIRST_CELL-2 : goal.returns-then-words-ne-FIRST_CELL-2
returns-then-words-ne-FIRST_CELL-2 c = offsets_no_blank _ _ c.if-words-ne-FIRST_CELL-2.true

pub returns-then-words-n : goal.returns-then-words-n
returns-then-words-n c = offsets_no_end _ _ _ refl c.if-words-n.true

pub returns : goal.returns
returns c = offsets_decided _ _ _ _ c.if-words-ne-FIRST_CELL.false c.if-words-ne-FIRST_CELL-2.false refl c.if-words-n.false c.rising.ensures
