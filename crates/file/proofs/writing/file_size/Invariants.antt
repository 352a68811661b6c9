-- `file::writing::file_size` meets its contract. The loop's invariant: the sizes of the lines so far are added up.
-- Assumes nothing.
use Prim.Native.Nat.{◌+◌}
use lib.ListN.{length}
use Rattle.image.specs.Image.{classes_of}
use Rattle.file_format.specs.Layout.{head_line_size}
use Rattle.file_format.specs.File.{class_lines}
use Rattle.file.proofs.FileBytes.{Sized}
use Rattle.file.proofs.writing.file_size.Given as goal

abbrev pub invariant-loop-i : goal.invariant-loop-i
invariant-loop-i l = Sized l.rules.bytes.now (head_line_size + length (class_lines (classes_of l.rules.bytes.now))) l.n l.i
