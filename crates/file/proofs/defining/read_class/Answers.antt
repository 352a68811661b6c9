-- `file::defining::read_class` meets its contract: the frame of a line stands in the lent bytes, where it has no more than they.
-- Assumes nothing.
use mathlib.Core.Path.{◌≡◌, refl, sym, ◌∙◌}
use native.Mathlib.Omega.{arith}
use lib.ListN.{length, replicate}
use lib.Seq.{length-take-le}
use Rattle.file_format.specs.Layout.{longest_class_frame}
use Rattle.file.proofs.ClassTests.{line_bad, line_other, line_long, line_broken, line_read}
use borrow.Author.Rules.{rules}
use Rattle.file.proofs.defining.read_class.Goals as goal

pub returns-in_default : goal.returns-in_default
returns-in_default c = line_bad c.args.file.now c.args.at c.args.low (sym c.in_default.is ∙ c.read_line.ensures.line)

pub returns-then-frame-ne-CLASS_TYPE : goal.returns-then-frame-ne-CLASS_TYPE
returns-then-frame-ne-CLASS_TYPE c = let a = c.args in let r = c.read_line in let s = c.in-Some in line_other a.file.now a.at a.low s.line (sym s.is ∙ r.ensures.line) (replicate longest_class_frame 0) r.new.frame refl r.ensures.bytes c.if-frame-ne-CLASS_TYPE.true

pub returns-then-n-gt-LONGEST_CLASS : goal.returns-then-n-gt-LONGEST_CLASS
returns-then-n-gt-LONGEST_CLASS c = let a = c.args in let r = c.read_line in let s = c.in-Some in line_long a.file.now a.at a.low s.line (sym s.is ∙ r.ensures.line) (replicate longest_class_frame 0) r.new.frame refl r.ensures.bytes c.if-frame-ne-CLASS_TYPE.false c.if-n-gt-LONGEST_CLASS.true

pub slice_bounds-class_in-end : goal.slice_bounds-class_in-end
slice_bounds-class_in-end c = let l : length c.read_line.new.frame ≡ longest_class_frame = search rules in sym (length-take-le _ _ (omega arith))

pub returns-in_default-class_in : goal.returns-in_default-class_in
returns-in_default-class_in c = let a = c.args in let r = c.read_line in let s = c.in-Some in line_broken a.file.now a.at a.low s.line (sym s.is ∙ r.ensures.line) (replicate longest_class_frame 0) r.new.frame refl r.ensures.bytes c.if-frame-ne-CLASS_TYPE.false c.if-n-gt-LONGEST_CLASS.false (sym c.in_default-class_in.is ∙ c.class_in.ensures)

pub returns : goal.returns
returns c = let a = c.args in let r = c.read_line in let s = c.in-Some in line_read a.file.now a.at a.low s.line (sym s.is ∙ r.ensures.line) (replicate longest_class_frame 0) r.new.frame refl r.ensures.bytes c.if-frame-ne-CLASS_TYPE.false c.if-n-gt-LONGEST_CLASS.false c.in-Some-class_in.mask (sym c.in-Some-class_in.is ∙ c.class_in.ensures)
