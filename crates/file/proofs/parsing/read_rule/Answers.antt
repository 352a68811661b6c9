-- `file::parsing::read_rule` meets its contract: the frame of a line stands in the lent bytes, where it has no more than they.
-- Assumes nothing.
use mathlib.Core.Path.{◌≡◌, refl, sym, ◌∙◌}
use native.Mathlib.Omega.{arith}
use borrow.Author.Rules.{rules}
use lib.ListN.{length, replicate}
use lib.Seq.{length-take-le}
use Rattle.file_format.specs.Layout.{longest_frame}
use Rattle.file.proofs.NextLine.{rule_bad, rule_long, rule_none, rule_read}
use Rattle.file.proofs.parsing.read_rule.Goals as goal

pub returns-in_default : goal.returns-in_default
returns-in_default c = rule_bad c.args.file.now c.args.at c.args.last (sym c.in_default.is ∙ c.read_line.ensures.line)

pub returns-then-n-gt-LONGEST : goal.returns-then-n-gt-LONGEST
returns-then-n-gt-LONGEST c = let r = c.in-Some in rule_long c.args.file.now c.args.at c.args.last r.line (sym r.is ∙ c.read_line.ensures.line) c.if-n-gt-LONGEST.true

pub slice_bounds-ruled_in-end : goal.slice_bounds-ruled_in-end
slice_bounds-ruled_in-end c = let l : length c.read_line.new.frame ≡ longest_frame = search rules in sym (length-take-le _ _ (omega arith))

pub returns-in_default-ruled_in : goal.returns-in_default-ruled_in
returns-in_default-ruled_in c = let r = c.in-Some in rule_none c.args.file.now c.args.at c.args.last r.line (sym r.is ∙ c.read_line.ensures.line) (replicate longest_frame 0) c.read_line.new.frame refl c.read_line.ensures.bytes c.if-n-gt-LONGEST.false (sym c.in_default-ruled_in.is ∙ c.ruled_in.ensures)

pub returns : goal.returns
returns c = let r = c.in-Some in rule_read c.args.file.now c.args.at c.args.last r.line (sym r.is ∙ c.read_line.ensures.line) (replicate longest_frame 0) c.read_line.new.frame refl c.read_line.ensures.bytes c.if-n-gt-LONGEST.false c.in-Some-ruled_in.entry (sym c.in-Some-ruled_in.is ∙ c.ruled_in.ensures)
