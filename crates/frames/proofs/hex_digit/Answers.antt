-- `frames::hex_digit` meets its contract.
-- Assumes nothing.
use Rattle.std.proofs.Common.{arith, rules}
use Rattle.frames.proofs.Lines.{digit_from}
use Rattle.frames.proofs.hex_digit.Goals as goal

pub overflow_add-result : goal.overflow_add-result
overflow_add-result c = let u = (digit_from c.args.d c.digit_base.result c.digit_base.ensures).0 in omega arith

pub returns : goal.returns
returns c = (digit_from c.args.d c.digit_base.result c.digit_base.ensures).1
