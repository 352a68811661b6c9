-- `frames::letter_value` meets its contract: the test decides.
-- Assumes nothing.
use Rattle.frames.proofs.Lines.{letter-in, letter_out}
use Rattle.std.proofs.Common.{rules}
use Rattle.frames.proofs.letter_value.Goals as goal

pub returns-then-e-lt6 : goal.returns-then-e-lt6
returns-then-e-lt6 c = letter-in c.args.a c.wrapping_sub_u8-e.result (search rules) c.wrapping_sub_u8-e.ensures.value c.if-e-lt6.true

pub returns-else-e-lt6 : goal.returns-else-e-lt6
returns-else-e-lt6 c = letter_out c.args.a c.wrapping_sub_u8-e.result (search rules) c.wrapping_sub_u8-e.ensures.value c.if-e-lt6.false
