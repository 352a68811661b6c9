-- `write_text` meets its contract: the descent from the start.
-- Assumes nothing.
use Rattle.readout.proofs.Calls.{words_size, start_asks, start_gives}
use Rattle.exceptions.proofs.Sizes.{size_is}
use native.Mathlib.Omega.{arith}
use mathlib.Core.Path.{refl}
use Rattle.readout.proofs.write_text.Goals as goal

pub slice_bounds-words-end : goal.slice_bounds-words-end
slice_bounds-words-end c = words_size _ c.requires

pub start_of-n-requires : goal.start_of-n-requires
start_of-n-requires c = let e = words_size _ c.requires in let s = size_is in omega arith

pub write_from-requires : goal.write_from-requires
write_from-requires c = start_asks _ c.requires _ c.start_of-n.ensures _ refl

pub returns : goal.returns
returns c = start_gives _ c.requires _ c.start_of-n.ensures _ _ _ _ _ c.write_from.ensures
