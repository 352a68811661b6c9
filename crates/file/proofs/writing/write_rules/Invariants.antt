-- `file::writing::write_rules` meets its contract. The loop's invariant: the lines of the rules so far stand from `from` on.
-- Assumes nothing.
use Rattle.file.proofs.FileBytes.{Lined}
use Rattle.file.proofs.writing.write_rules.Given as goal

abbrev pub invariant-loop-i : goal.invariant-loop-i
invariant-loop-i l = Lined l.rules.bytes.now l.from l.initial.out l.out l.at l.i
