-- `frames::writer::end` meets its contract: the byte that makes the running sum zero, then 0A.
-- Assumes nothing.
use Rattle.std.proofs.Common.{◌≡◌, arith, rules}
use Rattle.frames.specs.Lines.{complement}
use Rattle.frames.proofs.Output.{ended_by}
use Rattle.frames.proofs.writer.end.Goals as goal

pub returns : goal.returns
returns c = let a = c.args in
    let p = c.put-last in
    let b = c.wrapping_sub_u8 in
    let s : b.result ≡ complement a.w.sum = omega (arith, b.ensures.value) in
    record {
      next = omega (arith, p.ensures.next);
      line = ended_by a.w p.result a.out.now _ b.result (omega arith) s p.ensures.sent;
    }
