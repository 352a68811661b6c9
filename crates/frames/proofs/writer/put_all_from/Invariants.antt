-- `frames::writer::put_all_from` meets its contract. The loop's invariant: the bytes so far have gone out.
-- Assumes nothing.
use Rattle.std.proofs.Common.{ℕ, List, [], ◌∷◌}
use Rattle.frames.specs.Output.{output}
use Rattle.frames.proofs.Output.{Sending}
use Rattle.frames.proofs.writer.put_all_from.Given as goal

abbrev alone : ℕ → List ℕ
alone b = b ∷ []

abbrev pub invariant-loop-b : goal.invariant-loop-b
invariant-loop-b l = Sending alone l.bytes (output l.initial.next l.initial.out) (output l.next l.out) l.b-index
