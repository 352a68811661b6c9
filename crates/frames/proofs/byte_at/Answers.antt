-- `frames::byte_at` meets its contract: both digits stand in the text.
-- Assumes nothing.
use Rattle.std.proofs.Common.{arith}
use Rattle.frames.proofs.Decoding.{placed}
use Rattle.frames.proofs.byte_at.Goals as goal

pub overflow_mul-i : goal.overflow_mul-i
overflow_mul-i c = omega (arith, (placed c.args.text.now c.args.at c.args.k c.requires).room)

pub overflow_add-i : goal.overflow_add-i
overflow_add-i c = omega (arith, (placed c.args.text.now c.args.at c.args.k c.requires).room)

pub bounds-text-i : goal.bounds-text-i
bounds-text-i c = omega (arith, (placed c.args.text.now c.args.at c.args.k c.requires).room)

pub digit_value-requires : goal.digit_value-requires
digit_value-requires c = (placed c.args.text.now c.args.at c.args.k c.requires).high

pub overflow_mul-result : goal.overflow_mul-result
overflow_mul-result c = omega (arith, c.digit_value.ensures, (placed c.args.text.now c.args.at c.args.k c.requires).high)

pub overflow_add-i-2 : goal.overflow_add-i-2
overflow_add-i-2 c = omega (arith, (placed c.args.text.now c.args.at c.args.k c.requires).room)

pub bounds-text-i-2 : goal.bounds-text-i-2
bounds-text-i-2 c = omega (arith, (placed c.args.text.now c.args.at c.args.k c.requires).room)

pub digit_value-requires-2 : goal.digit_value-requires-2
digit_value-requires-2 c = (placed c.args.text.now c.args.at c.args.k c.requires).low

pub overflow_add-result : goal.overflow_add-result
overflow_add-result c = omega (arith, c.digit_value.ensures, c.digit_value-2.ensures, (placed c.args.text.now c.args.at c.args.k c.requires).high, (placed c.args.text.now c.args.at c.args.k c.requires).low)

pub returns : goal.returns
returns c = rw (c.digit_value.ensures, c.digit_value-2.ensures) (placed c.args.text.now c.args.at c.args.k c.requires).is
