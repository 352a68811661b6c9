-- `exceptions::judging::names_lettered` meets its contract.
-- Assumes nothing.
use Rattle.exceptions.proofs.Judged.{lettered_found}
use borrow.Author.Rules.{rules}
use Rattle.exceptions.proofs.judging.names_lettered.Goals as goal

pub returns : goal.returns
returns c = lettered_found _ _ _ c.at.ensures
