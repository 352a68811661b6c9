-- `commands::speaking::build_lent` meets its contract: both counts are the smaller of what is asked for and what there is.
-- Assumes nothing.
use borrow.Author.Rules.{rules}
use Rattle.commands.proofs.speaking.build_lent.Goals as goal

pub returns : goal.returns
returns c = cc (c.build_in.ensures, c.lent-n.ensures.0, c.four_at.ensures.0, c.lent-m.ensures.0, c.four_at-2.ensures.0)
