-- `frames::writer::put_four` meets its contract: the two high bytes, then the two low ones.
-- Assumes nothing.
use Rattle.std.proofs.Common.{arith, rules}
use Rattle.frames.proofs.Output.{sent_then}
use Rattle.frames.proofs.writer.put_four.Goals as goal

pub returns : goal.returns
returns c = let p = c.put_two-high.ensures in
    let q = c.put_two.ensures in
    record {
      next = omega (arith, p.next, q.next);
      sent = sent_then p.sent q.sent;
    }
