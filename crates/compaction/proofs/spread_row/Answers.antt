-- `compaction::spread_row` meets its contract.
-- Assumes nothing.
use Rattle.compaction.proofs.Marks.{spread_skip, spread_mark}
use borrow.Author.Rules.{rules}
use Rattle.compaction.proofs.spread_row.Goals as goal

pub returns-then-marks-i-eq0 : goal.returns-then-marks-i-eq0
returns-then-marks-i-eq0 c = spread_skip _ _ _ c.if-marks-i-eq0.true

pub returns : goal.returns
returns c = spread_mark _ _ _ _ c.if-marks-i-eq0.false c.mark_row.ensures
