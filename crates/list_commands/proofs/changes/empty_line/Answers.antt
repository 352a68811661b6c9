-- `list_commands::changes::empty_line` meets its contract: the two cases of an answer.
-- Assumes nothing.
use borrow.Author.Rules.{rules}
use Rattle.list_commands.proofs.Lines.{empty_accepted, empty_refused}
use Rattle.list_commands.proofs.changes.empty_line.Goals as goal

pub returns-in-Ok : goal.returns-in-Ok
returns-in-Ok c = let a = c.args in
    let told = empty_accepted _ a.out.now _ a.answer c.in-Ok.is c.done_line.ensures.len c.done_line.ensures.bytes in
    record {
      len = told.0;
      bytes = told.1;
    }

pub returns-in-Err : goal.returns-in-Err
returns-in-Err c = let a = c.args in
    let told = empty_refused _ a.out.now _ a.answer _ c.in-Err.is c.refusal_line.ensures.len c.refusal_line.ensures.bytes in
    record {
      len = told.0;
      bytes = told.1;
    }
