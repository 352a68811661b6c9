-- `command_parts::memory::show_sets` meets its contract: the part that is asked for, where it is inside.
-- Assumes nothing.
use mathlib.Core.Path.{sym, ◌∙◌}
use Rattle.command_parts.specs.Memory.{eights, shown_sets}
use Rattle.command_parts.proofs.Shown.{part_not, part_shown}
use Rattle.command_parts.proofs.memory.show_sets.Goals as goal

pub returns-then-not-is_inside : goal.returns-then-not-is_inside
unfolding shown_sets
returns-then-not-is_inside c = let a = c.args in
    let told = part_not eights a.f.now a.sets.now _ a.out.now _ (sym c.is_inside.ensures ∙ c.if-not-is_inside.true) c.malformed.ensures.len c.malformed.ensures.bytes in
    record {
      len = told.0;
      bytes = told.1;
    }

pub returns : goal.returns
unfolding shown_sets
returns c = let a = c.args in
    let told = part_shown eights a.f.now a.sets.now _ a.out.now _ (sym c.is_inside.ensures ∙ c.if-not-is_inside.false) _ _ c.four_at-i.ensures.0 c.from.ensures (c.sets_line.ensures.len, c.sets_line.ensures.bytes) in
    record {
      len = told.0;
      bytes = told.1;
    }
