-- `commands::speaking::plain_line` meets its contract: a plain reading is answered as a walk of no steps.
-- Assumes nothing.
use borrow.Author.Rules.{rules}
use Rattle.commands.proofs.speaking.plain_line.Goals as goal

pub returns : goal.returns
returns c =
    record {
      len = c.answer_line.ensures.len;
      bytes = c.answer_line.ensures.bytes;
    }
