-- `compaction::keep_row` meets its contract.
-- Assumes nothing.
use Rattle.compaction.proofs.Moves.{kept_skip, kept_keep, keep_set}
use borrow.Author.Rules.{rules}
use Rattle.compaction.proofs.keep_row.Goals as goal

pub returns-then-marks-i-eq0 : goal.returns-then-marks-i-eq0
returns-then-marks-i-eq0 c = kept_skip _ _ _ _ c.if-marks-i-eq0.true

pub move_row-requires : goal.move_row-requires
move_row-requires c = keep_set _ _ _ _ c.requires

pub returns : goal.returns
returns c = kept_keep _ _ _ _ _ c.if-marks-i-eq0.false c.move_row.ensures
