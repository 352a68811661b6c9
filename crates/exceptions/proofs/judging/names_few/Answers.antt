-- `exceptions::judging::names_few` meets its contract.
-- Assumes nothing.
use Rattle.exceptions.proofs.Judged.{few_found}
use borrow.Author.Rules.{rules}
use Rattle.exceptions.proofs.judging.names_few.Goals as goal

pub returns : goal.returns
returns c = few_found 1000 _ _ c.count_names.ensures
