-- `file::writing::put_number` meets its contract: the type, then the number's two bytes.
-- Assumes nothing.
use native.Mathlib.Omega.{arith}
use Rattle.frames.proofs.Output.{sent_then}
use borrow.Author.Rules.{rules}
use Rattle.file.proofs.writing.put_number.Goals as goal

pub returns : goal.returns
returns c = let t = c.put_from-a.ensures in
    let h = c.put_from-b.ensures in
    let l = c.put_from.ensures in
    record {
      next = omega (arith, t.next, h.next, l.next);
      sent = sent_then (sent_then t.sent h.sent) l.sent;
    }
