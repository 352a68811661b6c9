-- `walk::walk_sound` meets its contract: the frame, then the walk over it.
-- Assumes nothing.
use Rattle.reading.proofs.NameWords.{frame_length, frame_part}
use lib.ListN.{length, replicate}
use mathlib.Core.Path.{sym, ap, ◌∙◌}
use Rattle.walk.proofs.walk_sound.Goals as goal

pub slice_bounds-walk_frame-end : goal.slice_bounds-walk_frame-end
slice_bounds-walk_frame-end c = sym (ap length (frame_part c.args.name.now (replicate 66 0) c.lay_frame.new.f c.lay_frame.ensures) ∙ frame_length c.args.name.now)

pub walk_frame-requires : goal.walk_frame-requires
walk_frame-requires c = (c.requires.0, c.requires.1, c.requires.2, frame_part c.args.name.now (replicate 66 0) c.lay_frame.new.f c.lay_frame.ensures)
