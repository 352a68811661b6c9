-- `compaction::mark` meets its contract.
-- Assumes nothing.
use Rattle.compaction.proofs.Marks.{spread_begin, spread_next}
use mathlib.Core.Path.{refl, ◌∙◌}
use native.Mathlib.Omega.{arith}
use Rattle.compaction.proofs.mark.Goals as goal

pub loop-i-init : goal.loop-i-init
loop-i-init c = (omega arith, spread_begin _ _ _ _ c.clear.ensures c.requires.marked, refl)

pub loop-i-preserved : goal.loop-i-preserved
loop-i-preserved c = let a = c.loop-i.invariant.0 in
    (omega arith, spread_next _ _ _ _ _ c.requires.sound (omega arith) a c.loop-i.invariant.1 c.spread_row.ensures, c.spread_row.ensures.long ∙ c.loop-i.invariant.2)
