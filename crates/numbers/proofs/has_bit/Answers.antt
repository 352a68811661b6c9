-- `numbers::has_bit` meets its contract.
-- Assumes nothing.
use Rattle.numbers.proofs.Bits.{bit_test}
use Rattle.numbers.proofs.has_bit.Goals as goal

pub returns : goal.returns
returns c = bit_test c.args.k c.args.word
