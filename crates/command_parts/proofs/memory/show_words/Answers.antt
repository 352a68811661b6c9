-- `command_parts::memory::show_words` meets its contract: the part that is asked for, where it is inside.
-- Assumes nothing.
use mathlib.Core.Path.{sym, ◌∙◌}
use Rattle.lines.specs.Printed.{twos}
use Rattle.command_parts.specs.Memory.{shown_words}
use Rattle.command_parts.proofs.Shown.{part_not, part_shown}
use Rattle.command_parts.proofs.memory.show_words.Goals as goal

pub returns-then-not-is_inside : goal.returns-then-not-is_inside
unfolding shown_words
returns-then-not-is_inside c = let a = c.args in
    let told = part_not twos a.f.now a.words.now _ a.out.now _ (sym c.is_inside.ensures ∙ c.if-not-is_inside.true) c.malformed.ensures.len c.malformed.ensures.bytes in
    record {
      len = told.0;
      bytes = told.1;
    }

pub returns : goal.returns
unfolding shown_words
returns c = let a = c.args in
    let told = part_shown twos a.f.now a.words.now _ a.out.now _ (sym c.is_inside.ensures ∙ c.if-not-is_inside.false) _ _ c.four_at-i.ensures.0 c.from.ensures (c.words_line.ensures.len, c.words_line.ensures.bytes) in
    record {
      len = told.0;
      bytes = told.1;
    }
