-- `command_parts::memory::show_phones` meets its contract: 0A and the phones as a line.
-- Assumes nothing.
use borrow.Author.Tests.{eq-eqb, ne_eqb}
use lib.Dec.{eqb}
use lib.ListN.{length}
use Rattle.command_parts.specs.Memory.{shown_phones}
use Rattle.command_parts.proofs.Shown.{not_shown, is_shown}
use borrow.Author.Rules.{rules}
use Rattle.command_parts.proofs.memory.show_phones.Goals as goal

pub returns-then-f-ne1 : goal.returns-then-f-ne1
unfolding shown_phones
returns-then-f-ne1 c = let a = c.args in
    let told = not_shown (eqb (length a.f.now) 1) a.phones.now _ a.out.now _ (ne_eqb (length a.f.now) 1 c.if-f-ne1.true) c.malformed.ensures.len c.malformed.ensures.bytes in
    record {
      len = told.0;
      bytes = told.1;
    }

pub returns : goal.returns
unfolding shown_phones
returns c = let a = c.args in
    let told = is_shown (eqb (length a.f.now) 1) a.phones.now _ a.out.now _ (eq-eqb (length a.f.now) 1 c.if-f-ne1.false) (c.bytes_line.ensures.len, c.bytes_line.ensures.bytes) in
    record {
      len = told.0;
      bytes = told.1;
    }
