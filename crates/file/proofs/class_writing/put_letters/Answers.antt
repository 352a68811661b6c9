-- `file::class_writing::put_letters` meets its contract. The loop's invariant: the letters before those of x have gone out.
-- Assumes nothing.
use mathlib.Core.Path.{ap, ◌∙◌}
use native.Mathlib.Omega.{arith}
use Rattle.frames.specs.Output.{Output, output}
use Rattle.frames.proofs.Output.{sent_next}
use Rattle.classes.specs.Masks.{letters_in}
use Rattle.file.proofs.ClassOutput.{Lettering, lettering_start, lettering_length, lettering_room, lettering_next, lettering_end}
use Rattle.file.proofs.class_writing.put_letters.Goals as goal

pub loop-x-init : goal.loop-x-init
loop-x-init c = let a = c.args in lettering_start a.mask (output a.w a.out.now)

pub put_from-next-requires : goal.put_from-next-requires
put_from-next-requires c = let a = c.args in let p = c.requires in let l = c.loop-x in (lettering_room a.mask (output a.w a.out.now) (output l.next l.out) l.x l.invariant p.0 c.first_letter.result c.first_letter.ensures.0, p.1)

pub loop-x-smaller : goal.loop-x-smaller
loop-x-smaller c = c.without_first-x.ensures.1

pub loop-x-preserved : goal.loop-x-preserved
loop-x-preserved c = let a = c.args in let p = c.requires in let l = c.loop-x in lettering_next a.mask (output a.w a.out.now) (output l.next l.out) l.x l.invariant p.0 c.first_letter.result c.first_letter.ensures.0 c.without_first-x.result c.without_first-x.ensures.0 _ c.put_from-next.ensures.sent

pub shape_of-out : goal.shape_of-out
shape_of-out c = let a = c.args in let p = c.requires in let l = c.loop-x in lettering_length a.mask (output a.w a.out.now) (output l.next l.out) l.x l.invariant p.0

pub returns : goal.returns
returns c = let a = c.args in let p = c.requires in let l = c.loop-x in let s = lettering_end a.mask (output a.w a.out.now) (output l.next l.out) l.x l.invariant (omega arith) in
    record {
      next = ap (λ (o : Output). o.next) s.equal ∙ sent_next (letters_in a.mask) (output a.w a.out.now);
      sent = s;
    }
