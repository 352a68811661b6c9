-- `list_commands::texts::read_out_line` meets its contract: the two cases of an answer.
-- Assumes nothing.
use borrow.Author.Rules.{rules}
use Rattle.list_commands.proofs.Lines.{read_out, read_out_refused}
use Rattle.list_commands.proofs.texts.read_out_line.Goals as goal

pub returns-in-Ok : goal.returns-in-Ok
returns-in-Ok c = let a = c.args in
    let told = read_out _ a.out.now _ a.written _ c.in-Ok.is c.count_line.ensures.len c.count_line.ensures.bytes in
    record {
      len = told.0;
      bytes = told.1;
    }

pub returns-in-Err : goal.returns-in-Err
returns-in-Err c = let a = c.args in
    let told = read_out_refused _ a.out.now _ a.written _ c.in-Err.is c.refusal_line.ensures.len c.refusal_line.ensures.bytes in
    record {
      len = told.0;
      bytes = told.1;
    }
