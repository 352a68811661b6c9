-- `command_parts::answers::last_line` meets its contract: 06 and `last` go out.
-- Assumes nothing.
use native.Mathlib.Omega.{arith}
use Rattle.frames.proofs.Output.{sent_then}
use Rattle.lines.proofs.Printed.{printed_sent}
use Rattle.command_parts.specs.Answers.{last_line}
use borrow.Author.Rules.{rules}
use Rattle.command_parts.proofs.answers.last_line.Goals as goal

pub returns : goal.returns
unfolding last_line
returns c = let b = c.begin-start.ensures in
    let k = c.put-kind.ensures in
    let l = c.put_two-body.ensures in
    let e = c.end.ensures in
    record {
      len = omega (arith, b.next, k.next, l.next, e.next);
      bytes = printed_sent c.args.out.now b.begun (sent_then k.sent l.sent) e.line;
    }
