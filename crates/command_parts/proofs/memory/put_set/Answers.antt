-- `command_parts::memory::put_set` meets its contract: the four high bytes, then the four low ones.
-- Assumes nothing.
use native.Mathlib.Omega.{arith}
use Rattle.frames.proofs.Output.{sent_then}
use borrow.Author.Rules.{rules}
use Rattle.command_parts.proofs.memory.put_set.Goals as goal

pub returns : goal.returns
returns c = let h = c.put_four-high.ensures in
    let l = c.put_four.ensures in
    record {
      next = omega (arith, h.next, l.next);
      sent = sent_then h.sent l.sent;
    }
