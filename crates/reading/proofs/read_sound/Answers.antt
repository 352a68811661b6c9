-- `reading::read_sound` meets its contract: the frame, the parts of the words, the answer.
-- Assumes nothing.
use Rattle.exceptions.specs.Judging.{says_of}
use Rattle.image.specs.Image.{entries_of, classes_of}
use Rattle.reading.proofs.Loop.{after_none}
use Rattle.reading.proofs.NameWords.{frame_length, frame_part}
use Rattle.speech.specs.Speech.{answered, delivered, plain_words}
use Rattle.fitting.specs.Reading.{Reading}
use lib.ListN.{length, replicate}
use mathlib.Core.Path.{refl, sym, ap, ◌∙◌}
use Rattle.reading.proofs.read_sound.Goals as goal

pub slice_bounds-read_words-end : goal.slice_bounds-read_words-end
slice_bounds-read_words-end c = sym (ap length (frame_part c.args.name.now (replicate 66 0) c.lay_frame.new.f c.lay_frame.ensures) ∙ frame_length c.args.name.now)

pub read_words-reached-requires : goal.read_words-reached-requires
read_words-reached-requires c = (c.requires, frame_part c.args.name.now (replicate 66 0) c.lay_frame.new.f c.lay_frame.ensures, refl)

pub returns : goal.returns
returns c = c.answer.ensures ∙ ap (λ (o : Reading). delivered (answered o 0) c.args.phones.now c.args.numbers.now) (c.read_words-reached.ensures.says ∙ after_none (plain_words (classes_of c.args.rules.bytes.now) (entries_of c.args.rules.bytes.now) c.args.name.now (says_of c.args.list.now)))
