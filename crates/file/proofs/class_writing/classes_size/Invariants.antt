-- `file::class_writing::classes_size` meets its contract. The loop's invariant: the sizes of the lines so far are added up.
-- Assumes nothing.
use Rattle.file.proofs.ClassOutput.{Sized}
use Rattle.file.proofs.class_writing.classes_size.Given as goal

abbrev pub invariant-loop-symbol : goal.invariant-loop-symbol
invariant-loop-symbol l = Sized l.masks l.n l.symbol
