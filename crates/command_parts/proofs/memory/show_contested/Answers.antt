-- `command_parts::memory::show_contested` meets its contract: 0A and the count as a line.
-- Assumes nothing.
use mathlib.Core.List.{[], ◌∷◌}
use borrow.Author.Tests.{eq-eqb, ne_eqb}
use lib.Dec.{eqb}
use lib.ListN.{length}
use Rattle.command_parts.specs.Memory.{shown_contested}
use Rattle.command_parts.proofs.Shown.{not_shown, is_shown}
use borrow.Author.Rules.{rules}
use Rattle.command_parts.proofs.memory.show_contested.Goals as goal

pub returns-then-f-ne1 : goal.returns-then-f-ne1
unfolding shown_contested
returns-then-f-ne1 c = let a = c.args in
    let told = not_shown (eqb (length a.f.now) 1) (a.contested ∷ []) _ a.out.now _ (ne_eqb (length a.f.now) 1 c.if-f-ne1.true) c.malformed.ensures.len c.malformed.ensures.bytes in
    record {
      len = told.0;
      bytes = told.1;
    }

pub returns : goal.returns
unfolding shown_contested
returns c = let a = c.args in
    let told = is_shown (eqb (length a.f.now) 1) (a.contested ∷ []) _ a.out.now _ (eq-eqb (length a.f.now) 1 c.if-f-ne1.false) (c.bytes_line.ensures.len, c.bytes_line.ensures.bytes) in
    record {
      len = told.0;
      bytes = told.1;
    }
