-- `frames::writer::put_two` meets its contract: the high byte, then the low one.
-- Assumes nothing.
use Rattle.std.proofs.Common.{arith}
use Rattle.frames.proofs.Output.{sent_then}
use Rattle.frames.proofs.writer.put_two.Goals as goal

pub returns : goal.returns
returns c = let p = c.put-high.ensures in
    let q = c.put.ensures in
    record {
      next = omega (arith, p.next, q.next);
      sent = sent_then p.sent q.sent;
    }
