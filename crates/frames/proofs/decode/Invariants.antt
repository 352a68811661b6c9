-- `frames::decode` meets its contract. The loop's invariant: the bytes so far stand at the front of the lent ones.
-- Assumes nothing.
use Rattle.std.proofs.Common.{drop}
use Rattle.frames.specs.Lines.{decoded}
use Rattle.frames.proofs.Decoding.{Decoded}
use Rattle.frames.proofs.decode.Given as goal

abbrev pub invariant-loop-i : goal.invariant-loop-i
invariant-loop-i l = Decoded (decoded (drop l.at l.text)) l.initial.frame l.frame l.n l.i
