-- `frames::pair_at` meets its contract: the tests in turn.
-- Assumes nothing.
use Rattle.frames.proofs.Pairs.{pair_short, pair_high, pair_low, pair_found}
use Rattle.std.proofs.Common.{arith, rules}
use Rattle.frames.proofs.pair_at.Goals as goal

pub returns-then-s-i : goal.returns-then-s-i
returns-then-s-i c = pair_short c.args.s.now c.args.i (omega arith)

pub returns-then-s-i-lt2 : goal.returns-then-s-i-lt2
returns-then-s-i-lt2 c = pair_short c.args.s.now c.args.i (omega arith)

pub returns-then-h-ge16 : goal.returns-then-h-ge16
returns-then-h-ge16 c = pair_high c.args.s.now c.args.i (omega arith) (omega arith)

pub returns-then-l-ge16 : goal.returns-then-l-ge16
returns-then-l-ge16 c = pair_low c.args.s.now c.args.i (omega arith) (omega arith) (omega arith)

pub returns : goal.returns
returns c = rw (c.hex_value-h.ensures, c.hex_value-l.ensures) (pair_found c.args.s.now c.args.i (omega arith) (omega arith) (omega arith))
