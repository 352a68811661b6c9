-- `command_parts::answers::states_line` meets its contract: 06, L and R go out.
-- Assumes nothing.
use native.Mathlib.Omega.{arith}
use Rattle.frames.proofs.Output.{sent_then}
use Rattle.lines.proofs.Printed.{printed_sent}
use Rattle.command_parts.specs.Answers.{states_line}
use borrow.Author.Rules.{rules}
use Rattle.command_parts.proofs.answers.states_line.Goals as goal

pub returns : goal.returns
unfolding states_line
returns c = let b = c.begin-start.ensures in
    let k = c.put-kind.ensures in
    let l = c.put_two-left.ensures in
    let r = c.put_two-body.ensures in
    let e = c.end.ensures in
    record {
      len = omega (arith, b.next, k.next, l.next, r.next, e.next);
      bytes = printed_sent c.args.out.now b.begun (sent_then (sent_then k.sent l.sent) r.sent) e.line;
    }
