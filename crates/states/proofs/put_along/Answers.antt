-- `states::put_along` meets its contract: the change of the name from place i on is made, from the last place back to the first.
-- Assumes nothing.
use native.Mathlib.Omega.{arith}
use Rattle.states.proofs.Puts.{start_asks, start_gives, along_next, along_end, back_asks}
use Rattle.states.proofs.put_along.Goals as goal

pub intern_with_phones-placed-requires : goal.intern_with_phones-placed-requires
intern_with_phones-placed-requires c = start_asks _ _ _ _ c.requires.0 _ c.requires.1 _ c.from-last.ensures

pub intern_with_successor-placed-requires : goal.intern_with_successor-placed-requires
intern_with_successor-placed-requires c = let s = start_gives _ _ _ _ c.requires.0 _ c.requires.1 _ c.from-last.ensures _ _ c.intern_with_phones-placed.ensures in
    back_asks _ _ _ _ c.requires.0 _ c.requires.1 _ _ _ (omega arith) c.loop-i.invariant.place c.from-c.ensures c.from-q.ensures _ _ (c.loop-i.invariant.gives _ c.requires.0 c.requires.1 s)

pub loop-i-preserved : goal.loop-i-preserved
loop-i-preserved c = along_next _ _ _ _ _ _ _ _ _ c.loop-i.invariant (omega arith) _ _ c.from-c.ensures c.from-q.ensures _ _ c.intern_with_successor-placed.ensures

pub returns : goal.returns
returns c = let s = start_gives _ _ _ _ c.requires.0 _ c.requires.1 _ c.from-last.ensures _ _ c.intern_with_phones-placed.ensures in
    along_end _ _ _ _ _ _ _ _ _ c.loop-i.invariant (omega arith) _ c.requires.0 c.requires.1 s
