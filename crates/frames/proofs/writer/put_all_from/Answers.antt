-- `frames::writer::put_all_from` meets its contract. The loop's invariant: the bytes so far have gone out.
-- Assumes nothing.
use Rattle.std.proofs.Common.{ℕ, List, [], ◌∷◌, ap, arith}
use Rattle.frames.specs.Output.{Output, output}
use Rattle.frames.proofs.Output.{single, sent_as, sent_next, sending_start, sending_next, sending_end, sending_length, sending_room}
use Rattle.frames.proofs.writer.put_all_from.Goals as goal

abbrev alone : ℕ → List ℕ
alone b = b ∷ []

pub loop-b-init : goal.loop-b-init
loop-b-init c = let a = c.args in sending_start alone a.bytes.now (output a.w a.out.now)

pub put_from-next-requires : goal.put_from-next-requires
put_from-next-requires c = let a = c.args in
    let p = c.requires in
    let l = c.loop-b in
    (sending_room alone a.bytes.now (output a.w a.out.now) _ l.b-index l.invariant (rw (single a.bytes.now) p.0) c.loop-b-test.true, p.1)

pub loop-b-preserved : goal.loop-b-preserved
loop-b-preserved c = let a = c.args in
    let l = c.loop-b in
    sending_next alone a.bytes.now (output a.w a.out.now) _ l.b-index l.invariant c.loop-b-test.true _ c.put_from-next.ensures.sent

pub shape_of-out : goal.shape_of-out
shape_of-out c = let a = c.args in
    let l = c.loop-b in
    sending_length alone a.bytes.now (output a.w a.out.now) _ l.b-index l.invariant (rw (single a.bytes.now) c.requires.0)

pub returns : goal.returns
returns c = let a = c.args in
    let l = c.loop-b in
    let o = output a.w a.out.now in
    let s = sent_as (single a.bytes.now) (sending_end alone a.bytes.now o _ l.b-index l.invariant c.loop-b-test.false) in
    record {
      next = omega (arith, ap (λ (q : Output). q.next) s.equal, sent_next a.bytes.now o);
      sent = s;
    }
