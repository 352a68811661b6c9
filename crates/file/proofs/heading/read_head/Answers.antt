-- `file::heading::read_head` meets its contract: the frame of a line stands in the lent bytes, where it has no more than they.
-- Assumes nothing.
use mathlib.Core.Path.{◌≡◌, refl, sym, ap, ◌∙◌}
use native.Mathlib.Omega.{arith}
use borrow.Author.Rules.{rules}
use Rattle.std.specs.Prelude.{Option}
use Rattle.std.specs.Option.{ok_or}
use Rattle.rules.specs.declared.Refusal.TheVariants.{BadText}
use Rattle.file.specs.declared.heading.Head.{Head}
use lib.ListN.{length, replicate}
use lib.Seq.{length-take-le}
use Rattle.file_format.specs.Layout.{head_frame_size}
use Rattle.file.proofs.FirstLine.{head_bad, head_long, head_read}
use Rattle.file.proofs.heading.read_head.Goals as goal

pub returns-in_default : goal.returns-in_default
returns-in_default c = head_bad c.args.file.now (sym c.in_default.is ∙ c.read_line.ensures.line)

pub returns-then-n-gt-HEAD : goal.returns-then-n-gt-HEAD
returns-then-n-gt-HEAD c = let r = c.in-Some in head_long c.args.file.now r.line (sym r.is ∙ c.read_line.ensures.line) c.if-n-gt-HEAD.true

pub slice_bounds-head_in-end : goal.slice_bounds-head_in-end
slice_bounds-head_in-end c = let l : length c.read_line.new.frame ≡ head_frame_size = search rules in sym (length-take-le _ _ (omega arith))

pub returns : goal.returns
returns c =
    let r = c.in-Some in
    c.ok_or.ensures.value
    ∙ (ap (λ (h : Option Head). ok_or h (BadText 0)) c.head_in.ensures
    ∙ head_read c.args.file.now r.line (sym r.is ∙ c.read_line.ensures.line) (replicate head_frame_size 0) c.read_line.new.frame refl c.read_line.ensures.bytes c.if-n-gt-HEAD.false)
