-- `file::class_writing::put_letters` meets its contract. The loop's invariant: the letters before those of x have gone out.
-- Assumes nothing.
use mathlib.Core.Path.{ap, ◌∙◌}
use native.Mathlib.Omega.{arith}
use Rattle.frames.specs.Output.{Output, output}
use Rattle.frames.proofs.Output.{sent_next}
use Rattle.classes.specs.Masks.{letters_in}
use Rattle.file.proofs.ClassOutput.{Lettering, lettering_start, lettering_length, lettering_room, lettering_next, lettering_end}
use Rattle.file.proofs.class_writing.put_letters.Given as goal

abbrev pub invariant-loop-x : goal.invariant-loop-x
invariant-loop-x l = Lettering l.mask (output l.initial.next l.initial.out) (output l.next l.out) l.x

abbrev pub decreases-loop-x : goal.decreases-loop-x
decreases-loop-x l = l.x
