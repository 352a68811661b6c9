-- `list_commands::changes::add` meets its contract: the name and the phones as they are cut out of the command.
-- Assumes nothing.
use Rattle.list_commands.proofs.Frames.{cut_add}
use Rattle.list_commands.proofs.changes.add.Goals as goal

pub returns : goal.returns
returns c = let a = c.args in cut_add a.f.now a.list.now _ _ _ c.from-end.ensures c.add_name.ensures
