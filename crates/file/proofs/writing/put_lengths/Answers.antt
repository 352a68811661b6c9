-- `file::writing::put_lengths` meets its contract: one length after the other.
-- Assumes nothing.
use native.Mathlib.Omega.{arith}
use Rattle.frames.proofs.Output.{sent_then}
use borrow.Author.Rules.{rules}
use Rattle.file.proofs.writing.put_lengths.Goals as goal

pub returns : goal.returns
returns c = let l = c.put_length-a.ensures in
    let t = c.put_length-b.ensures in
    let r = c.put_length-c.ensures in
    let p = c.put_length.ensures in
    record {
      next = omega (arith, l.next, t.next, r.next, p.next);
      sent = sent_then (sent_then (sent_then l.sent t.sent) r.sent) p.sent;
    }
