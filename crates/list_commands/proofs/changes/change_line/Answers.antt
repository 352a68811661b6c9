-- `list_commands::changes::change_line` meets its contract: the two cases of an answer.
-- Assumes nothing.
use borrow.Author.Rules.{rules}
use Rattle.list_commands.proofs.Lines.{change_accepted, change_refused}
use Rattle.list_commands.proofs.changes.change_line.Goals as goal

pub returns-in-Ok : goal.returns-in-Ok
returns-in-Ok c = let a = c.args in
    let told = change_accepted _ a.out.now _ a.answer a.list.now _ _ c.in-Ok.is c.name_count-names.ensures c.state_count-states.ensures c.states_line.ensures.len c.states_line.ensures.bytes in
    record {
      len = told.0;
      bytes = told.1;
    }

pub returns-in-Err : goal.returns-in-Err
returns-in-Err c = let a = c.args in
    let told = change_refused _ a.out.now _ a.answer a.list.now _ c.in-Err.is c.refusal_line.ensures.len c.refusal_line.ensures.bytes in
    record {
      len = told.0;
      bytes = told.1;
    }
