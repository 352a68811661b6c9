-- `command_parts::memory::sets_line` meets its contract: 0A and the set words go out.
-- Assumes nothing.
use mathlib.Core.List.{◌∷◌}
use native.Mathlib.Omega.{arith}
use Rattle.frames.proofs.Output.{sent_then}
use Rattle.lines.proofs.Printed.{printed_sent, length_printed}
use Rattle.command_parts.specs.Memory.{eights}
use Rattle.command_parts.proofs.Eights.{length_eights}
use borrow.Author.Rules.{rules}
use Rattle.command_parts.proofs.memory.sets_line.Goals as goal

pub returns : goal.returns
returns c = let a = c.args in
    let b = c.begin-start.ensures in
    let k = c.put-kind.ensures in
    let s = c.put_sets-body.ensures in
    let e = c.end.ensures in
    record {
      len = omega (arith, length_printed (10 ∷ eights a.sets.now), length_eights a.sets.now, b.next, k.next, s.next, e.next);
      bytes = printed_sent a.out.now b.begun (sent_then k.sent s.sent) e.line;
    }
