-- `list_commands::texts::show_command` meets its contract: the part that is asked for, where it is inside.
-- Assumes nothing.
use Prim.Native.Nat.{ℕ}
use mathlib.Core.Path.{sym, ◌∙◌}
use mathlib.Core.List.{List}
use Rattle.command_parts.proofs.Shown.{part_not, part_shown}
use Rattle.list_commands.specs.ListCommands.{shown_text}
use Rattle.list_commands.proofs.texts.show_command.Goals as goal

pub returns-then-not-is_inside : goal.returns-then-not-is_inside
unfolding shown_text
returns-then-not-is_inside c = let a = c.args in
    let told = part_not (λ (x : List ℕ). x) a.f.now a.text.now _ a.out.now _ (sym c.is_inside.ensures ∙ c.if-not-is_inside.true) c.malformed.ensures.len c.malformed.ensures.bytes in
    record {
      len = told.0;
      bytes = told.1;
    }

pub returns : goal.returns
unfolding shown_text
returns c = let a = c.args in
    let told = part_shown (λ (x : List ℕ). x) a.f.now a.text.now _ a.out.now _ (sym c.is_inside.ensures ∙ c.if-not-is_inside.false) _ _ c.four_at-i.ensures.0 c.from.ensures (c.bytes_line.ensures.len, c.bytes_line.ensures.bytes) in
    record {
      len = told.0;
      bytes = told.1;
    }
