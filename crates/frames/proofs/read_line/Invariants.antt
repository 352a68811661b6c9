-- `frames::read_line` meets its contract. The loop's invariant: what remains from here gives the whole line, and the bytes so far stand
-- in the lent ones.
-- Assumes nothing.
use Rattle.std.proofs.Common.{◌-◌, length, ◌∙◌, arith, rules}
use borrow.Author.Tests.{not-true, not-false}
use Rattle.frames.proofs.Scan.{Scan, scan_start, scan_len, scan_length, scan_room, scan_next, out_line, out_bytes, end_line, end_bytes, fault_line, fault_bytes}
use Rattle.frames.proofs.read_line.Given as goal

abbrev pub invariant-loop-i : goal.invariant-loop-i
invariant-loop-i l = Scan l.text l.at l.initial.frame l.frame l.sum l.last l.len l.i

abbrev pub decreases-loop-i : goal.decreases-loop-i
decreases-loop-i l = length l.text - l.i
