-- `commands::speaking::walk_line` meets its contract: a refusal has a line of its own, any other speech is answered as it is told.
-- Assumes nothing.
use borrow.Author.Rules.{rules}
use Rattle.commands.proofs.Spoken.{walk_refused, walk_spoken}
use Rattle.commands.proofs.speaking.walk_line.Goals as goal

pub returns-in-Err : goal.returns-in-Err
returns-in-Err c = let a = c.args in
    let told = walk_refused a.answer.speech a.answer.steps a.phones.now a.numbers.now _ a.out.now _ _ c.in-Err.is c.walk_refusal.ensures.len c.walk_refusal.ensures.bytes in
    record {
      len = told.0;
      bytes = told.1;
    }

pub returns : goal.returns
returns c = let a = c.args in
    let told = walk_spoken a.answer.speech a.answer.steps a.phones.now a.numbers.now _ a.out.now _ _ c.in_default.is (c.answer_line.ensures.len, c.answer_line.ensures.bytes) in
    record {
      len = told.0;
      bytes = told.1;
    }
