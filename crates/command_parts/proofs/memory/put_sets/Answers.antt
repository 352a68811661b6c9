-- `command_parts::memory::put_sets` meets its contract. The loop's invariant: the set words so far have gone out.
-- Assumes nothing.
use mathlib.Core.Path.{ap}
use native.Mathlib.Omega.{arith}
use Rattle.frames.specs.Output.{Output, output}
use Rattle.frames.proofs.Output.{sent_next, sending_start, sending_next, sending_end, sending_length, sending_room}
use Rattle.command_parts.specs.Memory.{bytes8, eights}
use Rattle.command_parts.proofs.Eights.{length_eights}
use Rattle.command_parts.proofs.memory.put_sets.Goals as goal

pub loop-set-init : goal.loop-set-init
loop-set-init c = let a = c.args in sending_start bytes8 a.sets.now (output a.w a.out.now)

pub put_set-next-requires : goal.put_set-next-requires
put_set-next-requires c = let a = c.args in
    let l = c.loop-set in
    sending_room bytes8 a.sets.now (output a.w a.out.now) _ l.set-index l.invariant (omega (arith, c.requires, length_eights a.sets.now)) c.loop-set-test.true

pub loop-set-preserved : goal.loop-set-preserved
loop-set-preserved c = let a = c.args in
    let l = c.loop-set in
    sending_next bytes8 a.sets.now (output a.w a.out.now) _ l.set-index l.invariant c.loop-set-test.true _ c.put_set-next.ensures.sent

pub shape_of-out : goal.shape_of-out
shape_of-out c = let a = c.args in let l = c.loop-set in sending_length bytes8 a.sets.now (output a.w a.out.now) _ l.set-index l.invariant (omega (arith, c.requires, length_eights a.sets.now))

pub returns : goal.returns
returns c = let a = c.args in
    let l = c.loop-set in
    let s = sending_end bytes8 a.sets.now (output a.w a.out.now) _ l.set-index l.invariant c.loop-set-test.false in
    record {
      next = omega (arith, ap (λ (o : Output). o.next) s.equal, sent_next (eights a.sets.now) (output a.w a.out.now), length_eights a.sets.now);
      sent = s;
    }
