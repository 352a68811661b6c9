-- `command_parts::answers::done_line` meets its contract: 06 goes out.
-- Assumes nothing.
use native.Mathlib.Omega.{arith}
use Rattle.lines.proofs.Printed.{printed_sent}
use Rattle.command_parts.specs.Answers.{done_line}
use borrow.Author.Rules.{rules}
use Rattle.command_parts.proofs.answers.done_line.Goals as goal

pub returns : goal.returns
unfolding done_line
returns c = let b = c.begin-start.ensures in
    let k = c.put-body.ensures in
    let e = c.end.ensures in
    record {
      len = omega (arith, b.next, k.next, e.next);
      bytes = printed_sent c.args.out.now b.begun k.sent e.line;
    }
