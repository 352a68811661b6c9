-- `monitor::input_lines::Input::read_line` meets its contract: each turn leaves what has arrived inside the piece.
-- Assumes nothing.
use Rattle.std.proofs.Common.{◌≤◌}
use Rattle.monitor.proofs.input_lines.Input.read_line.Given as goal

abbrev pub invariant-loop : goal.invariant-loop
invariant-loop g l = (l.at ≤ l.end) × (l.end ≤ 4096)
