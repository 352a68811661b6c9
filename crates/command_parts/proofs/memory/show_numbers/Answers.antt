-- `command_parts::memory::show_numbers` meets its contract: 0A and the numbers as a line.
-- Assumes nothing.
use borrow.Author.Tests.{eq-eqb, ne_eqb}
use lib.Dec.{eqb}
use lib.ListN.{length}
use Rattle.lines.specs.Printed.{twos}
use Rattle.command_parts.specs.Memory.{shown_numbers}
use Rattle.command_parts.proofs.Shown.{not_shown, is_shown}
use borrow.Author.Rules.{rules}
use Rattle.command_parts.proofs.memory.show_numbers.Goals as goal

pub returns-then-f-ne1 : goal.returns-then-f-ne1
unfolding shown_numbers
returns-then-f-ne1 c = let a = c.args in
    let told = not_shown (eqb (length a.f.now) 1) (twos a.numbers.now) _ a.out.now _ (ne_eqb (length a.f.now) 1 c.if-f-ne1.true) c.malformed.ensures.len c.malformed.ensures.bytes in
    record {
      len = told.0;
      bytes = told.1;
    }

pub returns : goal.returns
unfolding shown_numbers
returns c = let a = c.args in
    let told = is_shown (eqb (length a.f.now) 1) (twos a.numbers.now) _ a.out.now _ (eq-eqb (length a.f.now) 1 c.if-f-ne1.false) (c.words_line.ensures.len, c.words_line.ensures.bytes) in
    record {
      len = told.0;
      bytes = told.1;
    }
