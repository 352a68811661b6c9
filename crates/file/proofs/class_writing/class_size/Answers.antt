-- `file::class_writing::class_size` meets its contract.
-- Assumes nothing.
use mathlib.Core.Path.{sym}
use native.Mathlib.Omega.{arith}
use Rattle.classes.specs.Masks.{letters_in}
use Rattle.classes.proofs.Letters.{letters_some}
use Rattle.file.proofs.ClassOutput.{no_line}
use Rattle.file_format.proofs.Lengths.{length_class}
use borrow.Author.Rules.{rules}
use Rattle.file.proofs.class_writing.class_size.Goals as goal

pub returns-then-mask-eq0 : goal.returns-then-mask-eq0
returns-then-mask-eq0 c = let a = c.args in (sym (no_line a.symbol a.mask c.if-mask-eq0.true), omega arith)

pub returns : goal.returns
returns c = let a = c.args in let b = c.ranges.mask in let n = c.size_in.ensures in let l = letters_some a.mask (omega arith) (search rules) in (omega (arith, n.0, length_class a.symbol (letters_in a.mask) (omega arith)), omega (arith, n.1))
