-- `file::class_writing::write_classes` meets its contract. The loop's invariant: the lines of the classes so far stand after the head's.
-- Assumes nothing.
use Rattle.file.proofs.ClassOutput.{Lined}
use Rattle.file.proofs.class_writing.write_classes.Given as goal

abbrev pub invariant-loop-symbol : goal.invariant-loop-symbol
invariant-loop-symbol l = Lined l.masks l.initial.out l.out l.at l.symbol
