-- `lines::put_numbers` meets its contract. The loop's invariant: the numbers so far have gone out.
-- Assumes nothing.
use mathlib.Core.Path.{ap}
use native.Mathlib.Omega.{arith}
use Rattle.numbers.specs.Numbers.{bytes2}
use Rattle.frames.specs.Output.{Output, output}
use Rattle.frames.proofs.Output.{sent_as, sent_next, sending_start, sending_next, sending_end, sending_length, sending_room}
use Rattle.lines.specs.Printed.{twos}
use Rattle.lines.proofs.Printed.{length_twos}
use Rattle.lines.proofs.put_numbers.Goals as goal

pub loop-n-init : goal.loop-n-init
loop-n-init c = let a = c.args in sending_start bytes2 a.numbers.now (output a.w a.out.now)

pub put_two-next-requires : goal.put_two-next-requires
put_two-next-requires c = let a = c.args in
    let l = c.loop-n in
    sending_room bytes2 a.numbers.now (output a.w a.out.now) _ l.n-index l.invariant (omega (arith, c.requires, length_twos a.numbers.now)) c.loop-n-test.true

pub loop-n-preserved : goal.loop-n-preserved
loop-n-preserved c = let a = c.args in
    let l = c.loop-n in
    sending_next bytes2 a.numbers.now (output a.w a.out.now) _ l.n-index l.invariant c.loop-n-test.true _ (sent_as (ap bytes2 c.from.ensures) c.put_two-next.ensures.sent)

pub shape_of-out : goal.shape_of-out
shape_of-out c = let a = c.args in let l = c.loop-n in sending_length bytes2 a.numbers.now (output a.w a.out.now) _ l.n-index l.invariant (omega (arith, c.requires, length_twos a.numbers.now))

pub returns : goal.returns
returns c = let a = c.args in
    let l = c.loop-n in
    let s = sending_end bytes2 a.numbers.now (output a.w a.out.now) _ l.n-index l.invariant c.loop-n-test.false in
    record {
      next = omega (arith, ap (λ (o : Output). o.next) s.equal, sent_next (twos a.numbers.now) (output a.w a.out.now), length_twos a.numbers.now);
      sent = s;
    }
