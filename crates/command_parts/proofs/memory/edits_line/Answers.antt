-- `command_parts::memory::edits_line` meets its contract: 0A and the count go out.
-- Assumes nothing.
use mathlib.Core.List.{◌∷◌}
use native.Mathlib.Omega.{arith}
use Rattle.numbers.specs.Numbers.{bytes4}
use Rattle.frames.proofs.Output.{sent_then}
use Rattle.lines.proofs.Printed.{printed_sent, length_printed}
use Rattle.command_parts.proofs.memory.edits_line.Goals as goal

pub returns : goal.returns
returns c = let b = c.begin-start.ensures in
    let k = c.put-kind.ensures in
    let n = c.put_four-body.ensures in
    let e = c.end.ensures in
    record {
      len = omega (arith, b.next, k.next, n.next, e.next, length_printed (10 ∷ bytes4 c.args.edits));
      bytes = printed_sent c.args.out.now b.begun (sent_then k.sent n.sent) e.line;
    }
