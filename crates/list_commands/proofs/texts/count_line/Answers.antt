-- `list_commands::texts::count_line` meets its contract: 06 and the number go out.
-- Assumes nothing.
use native.Mathlib.Omega.{arith}
use Rattle.frames.proofs.Output.{sent_then}
use Rattle.lines.proofs.Printed.{printed_sent}
use borrow.Author.Rules.{rules}
use Rattle.list_commands.proofs.texts.count_line.Goals as goal

pub returns : goal.returns
returns c = let b = c.begin-start.ensures in
    let k = c.put-kind.ensures in
    let n = c.put_four-body.ensures in
    let e = c.end.ensures in
    record {
      len = omega (arith, b.next, k.next, n.next, e.next);
      bytes = printed_sent c.args.out.now b.begun (sent_then k.sent n.sent) e.line;
    }
