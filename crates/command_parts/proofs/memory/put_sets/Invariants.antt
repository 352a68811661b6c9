-- `command_parts::memory::put_sets` meets its contract. The loop's invariant: the set words so far have gone out.
-- Assumes nothing.
use Rattle.frames.specs.Output.{output}
use Rattle.frames.proofs.Output.{Sending}
use Rattle.command_parts.specs.Memory.{bytes8}
use Rattle.command_parts.proofs.memory.put_sets.Given as goal

abbrev pub invariant-loop-set : goal.invariant-loop-set
invariant-loop-set l = Sending bytes8 l.sets (output l.initial.next l.initial.out) (output l.next l.out) l.set-index
