-- `write_heading` meets its contract: length, letters, phone count.
-- Assumes nothing.
use Rattle.readout.proofs.Entries.{heading_writes}
use lib.ListN.{length-set}
use mathlib.Core.Path.{◌∙◌}
use native.Mathlib.Omega.{arith}
use Rattle.readout.proofs.writing.write_heading.Goals as goal

pub write_letters-requires : goal.write_letters-requires
write_letters-requires c = let p = c.requires in (p.1, simp length-set (omega arith))

pub bounds-out-at-2 : goal.bounds-out-at-2
bounds-out-at-2 c = let l = c.write_letters.ensures.long in
    let g = length-set c.args.out.now c.args.at c.args.depth in
    omega arith

pub shape_of-out : goal.shape_of-out
shape_of-out c = simp length-set (c.write_letters.ensures.long ∙ length-set c.args.out.now c.args.at c.args.depth)

pub returns : goal.returns
returns c = heading_writes _ _ _ _ c.requires.1 _ _ c.write_letters.ensures
