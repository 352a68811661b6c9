-- `answer_lines::put_spoken` meets its contract: its fields go out, one after the other.
-- Assumes nothing.
use native.Mathlib.Omega.{arith}
use Rattle.frames.proofs.Output.{sent_then}
use Rattle.answer_lines.specs.Answers.{spoken_body}
use Rattle.answer_lines.proofs.put_spoken.Goals as goal

pub returns : goal.returns
unfolding spoken_body
returns c = let f = c.put_front-front.ensures in
    let p = c.put_all-said.ensures in
    let m = c.put_numbers.ensures in
    record {
      next = omega (arith, f.next, p.next, c.put-count.ensures.next, m.next);
      sent = sent_then (sent_then (sent_then f.sent p.sent) c.put-count.ensures.sent) m.sent;
    }
