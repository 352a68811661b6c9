-- The frame, then the passes and the reading over it.
-- Assumes nothing.
use mathlib.Core.Path.{sym, ap, ◌∙◌}
use lib.ListN.{length, replicate}
use Rattle.speech.specs.Places.{frame_size}
use Rattle.reading.proofs.NameWords.{frame_length, frame_part}
use Rattle.sheet_name.proofs.Settling as S
use Rattle.sheet_name.proofs.judge_words.Goals as goal

pub slice_bounds-judge_frame-end : goal.slice_bounds-judge_frame-end
slice_bounds-judge_frame-end c = let name = c.args.name.now in
    sym (ap length (frame_part name (replicate frame_size 0) c.lay_frame.new.f c.lay_frame.ensures) ∙ frame_length name)

pub judge_frame-x-requires : goal.judge_frame-x-requires
judge_frame-x-requires c = (c.requires.0, c.requires.1, c.requires.2, frame_part c.args.name.now (replicate frame_size 0) c.lay_frame.new.f c.lay_frame.ensures, c.requires.3, c.requires.4, c.requires.5, c.requires.6, c.requires.7)

pub settle-requires : goal.settle-requires
settle-requires c = S.few_parts c.judge_frame-x.result c.judge_frame-x.ensures

pub returns : goal.returns
returns c = S.settled-name c.requires.2 c.judge_frame-x.result c.judge_frame-x.ensures _ c.settle.ensures
