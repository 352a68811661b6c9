-- `lines::refused_line` meets its contract: its three fields go out.
-- Assumes nothing.
use native.Mathlib.Omega.{arith}
use Rattle.frames.proofs.Output.{sent_then}
use Rattle.lines.proofs.Printed.{printed_sent}
use borrow.Author.Rules.{rules}
use Rattle.lines.proofs.refused_line.Goals as goal

pub returns : goal.returns
returns c = let b = c.begin-start.ensures in
    let k = c.put-kind.ensures in
    let n = c.put-numbered.ensures in
    let p = c.put_four-body.ensures in
    let e = c.end.ensures in
    record {
      len = omega (arith, b.next, k.next, n.next, p.next, e.next);
      bytes = printed_sent c.args.out.now b.begun (sent_then (sent_then k.sent n.sent) p.sent) e.line;
    }
