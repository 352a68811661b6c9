-- `command_parts::answers::reply_line` meets its contract: the two cases of an answer.
-- Assumes nothing.
use mathlib.Core.Path.{◌∙◌}
use Rattle.image.specs.Image.{last_of}
use Rattle.command_parts.proofs.Replies.{gives_last, gives_refusal}
use Rattle.command_parts.proofs.answers.reply_line.Goals as goal

pub returns-in-Ok : goal.returns-in-Ok
returns-in-Ok c = let a = c.args in
    let told = gives_last a.answer (last_of a.image.now) _ a.out.now _ c.in-Ok.is _ (c.from.ensures ∙ c.last_issued.ensures) c.last_line.ensures.len c.last_line.ensures.bytes in
    record {
      len = told.0;
      bytes = told.1;
    }

pub returns-in-Err : goal.returns-in-Err
returns-in-Err c = let a = c.args in
    let told = gives_refusal a.answer (last_of a.image.now) _ a.out.now _ c.in-Err.x c.in-Err.is c.refusal_line.ensures.len c.refusal_line.ensures.bytes in
    record {
      len = told.0;
      bytes = told.1;
    }
