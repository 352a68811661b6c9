-- `answer_lines::put_front` meets its contract: its three fields go out.
-- Assumes nothing.
use native.Mathlib.Omega.{arith}
use Rattle.frames.proofs.Output.{sent_then}
use borrow.Author.Rules.{rules}
use Rattle.answer_lines.proofs.put_front.Goals as goal

pub returns : goal.returns
returns c = let k = c.put-kind.ensures in
    let s = c.put_two-stepped.ensures in
    let n = c.put_two.ensures in
    record {
      next = omega (arith, k.next, s.next, n.next);
      sent = sent_then (sent_then k.sent s.sent) n.sent;
    }
