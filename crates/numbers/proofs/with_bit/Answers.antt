-- `numbers::with_bit` meets its contract.
-- Assumes nothing.
use native.Mathlib.Omega.{arith}
use Rattle.numbers.proofs.Bits.{bit_put}
use Rattle.numbers.proofs.with_bit.Goals as goal

pub returns : goal.returns
returns c = bit_put c.args.word c.args.k (omega arith)
