-- `sheet_lines::sheet_line` meets its contract: 06, the steps and the names go out.
-- Assumes nothing.
use native.Mathlib.Omega.{arith}
use Rattle.frames.proofs.Output.{sent_then}
use Rattle.lines.proofs.Printed.{printed_sent}
use Rattle.sheet_lines.specs.SheetLines.{sheet_line}
use borrow.Author.Rules.{rules}
use Rattle.sheet_lines.proofs.sheet_line.Goals as goal

pub returns : goal.returns
unfolding sheet_line
returns c = let b = c.begin-start.ensures in
    let k = c.put-kind.ensures in
    let s = c.put_four-stepped.ensures in
    let e = c.end.ensures in
    record {
      len = omega (arith, b.next, k.next, s.next, c.put_two-body.ensures.next, e.next);
      bytes = printed_sent c.args.out.now b.begun (sent_then (sent_then k.sent s.sent) c.put_two-body.ensures.sent) e.line;
    }
