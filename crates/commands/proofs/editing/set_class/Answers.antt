-- `commands::editing::set_class` meets its contract: the edit is handed the symbol and the letters that the fields say.
-- Assumes nothing.
use Rattle.rules.proofs.Memory.{tail_is}
use borrow.Author.Rules.{rules}
use Rattle.commands.proofs.editing.set_class.Goals as goal

pub returns : goal.returns
returns c = cc (c.set_class.ensures, tail_is 2 c.args.f.now)
