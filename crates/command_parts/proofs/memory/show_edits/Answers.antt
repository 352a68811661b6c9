-- `command_parts::memory::show_edits` meets its contract: 0A and the edit count as a line.
-- Assumes nothing.
use borrow.Author.Tests.{eq-eqb, ne_eqb}
use lib.Dec.{eqb}
use lib.ListN.{length}
use Rattle.numbers.specs.Numbers.{bytes4}
use Rattle.image.specs.Image.{edits_of}
use Rattle.command_parts.specs.Memory.{shown_edits}
use Rattle.command_parts.proofs.Shown.{not_shown, is_shown, edits_shown}
use borrow.Author.Rules.{rules}
use Rattle.command_parts.proofs.memory.show_edits.Goals as goal

pub returns-then-f-ne1 : goal.returns-then-f-ne1
unfolding shown_edits
returns-then-f-ne1 c = let a = c.args in
    let told = not_shown (eqb (length a.f.now) 1) (bytes4 (edits_of a.image.now)) _ a.out.now _ (ne_eqb (length a.f.now) 1 c.if-f-ne1.true) c.malformed.ensures.len c.malformed.ensures.bytes in
    record {
      len = told.0;
      bytes = told.1;
    }

pub returns : goal.returns
unfolding shown_edits
returns c = let a = c.args in
    let told = is_shown (eqb (length a.f.now) 1) (bytes4 (edits_of a.image.now)) _ a.out.now _ (eq-eqb (length a.f.now) 1 c.if-f-ne1.false)
    (edits_shown _ (edits_of a.image.now) _ a.out.now _ c.edit_count.ensures (c.edits_line.ensures.len, c.edits_line.ensures.bytes)) in
    record {
      len = told.0;
      bytes = told.1;
    }
