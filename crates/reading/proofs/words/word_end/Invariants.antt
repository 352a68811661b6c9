-- `reading::words::word_end` meets its contract: the bytes from i on decide.
-- Assumes nothing.
use mathlib.Core.Path.{◌≡◌}
use Rattle.speech.specs.Words.{end_at}
use Rattle.reading.proofs.words.word_end.Given as goal

abbrev pub invariant-loop-i : goal.invariant-loop-i
invariant-loop-i l = end_at l.name l.from ≡ end_at l.name l.i
