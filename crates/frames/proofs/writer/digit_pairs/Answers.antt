-- `frames::writer::digit_pairs` meets its contract: the table is computed, entry by entry.
-- Assumes nothing.
use Rattle.std.proofs.Common.{refl}
use Rattle.frames.specs.Lines.{digit}
use Rattle.frames.specs.Output.{digit_pairs}
use Rattle.frames.proofs.writer.digit_pairs.Goals as goal

pub returns : goal.returns
unfolding digit_pairs digit
returns c = refl
