-- `minimality::rows_needed` meets its contract.
-- Assumes nothing.
use Rattle.minimality.proofs.Scan.{needed_decided}
use borrow.Author.Rules.{rules}
use Rattle.minimality.proofs.rows_needed.Goals as goal

pub returns : goal.returns
returns c = needed_decided _ _ _ c.requires.sound c.mark.ensures _ c.all_marked.ensures
