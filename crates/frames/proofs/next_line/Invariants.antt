-- `frames::next_line` meets its contract. The loop's invariant: what follows the line is what follows it from here.
-- Assumes nothing.
use Rattle.frames.proofs.Scan.{Search}
use Rattle.frames.proofs.next_line.Given as goal

abbrev pub invariant-loop-i : goal.invariant-loop-i
invariant-loop-i l = Search l.text l.at l.i
