-- `lines::put_numbers` meets its contract. The loop's invariant: the numbers so far have gone out.
-- Assumes nothing.
use Rattle.numbers.specs.Numbers.{bytes2}
use Rattle.frames.specs.Output.{output}
use Rattle.frames.proofs.Output.{Sending}
use Rattle.lines.proofs.put_numbers.Given as goal

abbrev pub invariant-loop-n : goal.invariant-loop-n
invariant-loop-n l = Sending bytes2 l.numbers (output l.initial.next l.initial.out) (output l.next l.out) l.n-index
