-- `frames::digit_value` meets its contract.
-- Assumes nothing.
use Rattle.frames.proofs.Decoding.{value_by}
use Rattle.std.proofs.Common.{rules}
use Rattle.frames.proofs.digit_value.Goals as goal

pub returns : goal.returns
returns c = value_by c.args.a c.requires
