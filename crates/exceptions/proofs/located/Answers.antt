-- `exceptions::located` meets its contract.
-- Assumes nothing.
use Rattle.exceptions.proofs.Looking.{asks_of}
use borrow.Author.Rules.{rules}
use Rattle.exceptions.proofs.located.Goals as goal

pub locate-requires : goal.locate-requires
locate-requires c = asks_of c.args.words.now c.args.q _ c.requires c.start_of.ensures
