-- `frames::hex_value` meets its contract: the test decides.
-- Assumes nothing.
use Rattle.std.proofs.Common.{◌∙◌, rules}
use Rattle.frames.proofs.Lines.{value_digit_in, value_digit_out}
use Rattle.frames.proofs.hex_value.Goals as goal

pub returns-then-d-lt10 : goal.returns-then-d-lt10
returns-then-d-lt10 c = value_digit_in c.args.a c.wrapping_sub_u8-d.result (search rules) c.wrapping_sub_u8-d.ensures.value c.if-d-lt10.true

pub returns-else-d-lt10 : goal.returns-else-d-lt10
returns-else-d-lt10 c = c.letter_value-e.ensures ∙ value_digit_out c.args.a c.wrapping_sub_u8-d.result (search rules) c.wrapping_sub_u8-d.ensures.value c.if-d-lt10.false
