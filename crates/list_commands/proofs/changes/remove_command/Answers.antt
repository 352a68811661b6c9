-- `list_commands::changes::remove_command` meets its contract: the name is all that follows the first byte.
-- Assumes nothing.
use borrow.Author.Rules.{rules}
use lib.ListN.{drop}
use Rattle.rules.specs.Refusals.{reply_of}
use Rattle.change.specs.Change.{Change}
use Rattle.list_commands.proofs.Frames.{cut_remove}
use Rattle.list_commands.proofs.Outcomes.{changed}
use Rattle.list_commands.proofs.changes.remove_command.Goals as goal

pub returns : goal.returns
returns c = let a = c.args in
    changed a.f.now a.list.now _ a.out.now _ _ (reply_of c.remove_name-answer.result) (Change.Remove (drop 1 a.f.now))
    (cut_remove a.f.now a.list.now _ _ c.remove_name-answer.ensures) (c.change_line.ensures.len, c.change_line.ensures.bytes)
