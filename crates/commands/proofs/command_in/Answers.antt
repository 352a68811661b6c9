-- `commands::command_in` meets its contract: of a sound line that has room all bytes but the last, of any other none.
-- Assumes nothing.
use mathlib.Core.Path.{sym, ◌∙◌}
use native.Mathlib.Omega.{arith}
use Rattle.commands.proofs.CommandLine.{none_unsound, none_long, some, command_is}
use Rattle.commands.proofs.command_in.Goals as goal

pub returns-in_default : goal.returns-in_default
returns-in_default c = let a = c.args in
    let r = c.read_line in
    record {
      command = none_unsound a.text.now a.frame.now _ r.ensures.bytes r.auto.frame (sym c.in_default.is ∙ r.ensures.line);
      within = omega arith;
      bytes = r.ensures.bytes;
    }

pub returns-then-frame-n : goal.returns-then-frame-n
returns-then-frame-n c = let a = c.args in
    let r = c.read_line in
    let l = c.in-Some in
    record {
      command = none_long a.text.now a.frame.now _ r.ensures.bytes r.auto.frame l.line (sym l.is ∙ r.ensures.line) c.if-frame-n.true;
      within = omega arith;
      bytes = r.ensures.bytes;
    }

pub overflow_sub-result : goal.overflow_sub-result
overflow_sub-result c = let a = c.args in
    let r = c.read_line in
    let l = c.in-Some in
    omega (arith, some a.text.now a.frame.now _ r.ensures.bytes r.auto.frame l.line (sym l.is ∙ r.ensures.line))

pub returns : goal.returns
returns c = let a = c.args in
    let r = c.read_line in
    let l = c.in-Some in
    record {
      command = command_is a.text.now a.frame.now _ r.ensures.bytes r.auto.frame l.line (sym l.is ∙ r.ensures.line) c.if-frame-n.false;
      within = omega arith;
      bytes = r.ensures.bytes;
    }
