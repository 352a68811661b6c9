-- The loop over the symbols of a pattern.
-- Assumes nothing.
use Prim.Native.Nat.{◌+◌, ◌*◌}
use native.Mathlib.Omega.{arith}
use Rattle.rules.specs.Limits.{max_pattern}
use Rattle.side.proofs.Running.{part_at}
use Rattle.count.proofs.Following as F
use Rattle.count.proofs.follow.Goals as goal

pub loop-m-init : goal.loop-m-init
loop-m-init c = F.begin _ _

pub overflow_add-c-items : goal.overflow_add-c-items
overflow_add-c-items c = omega (arith, c.from-len.ensures, c.requires.0.short c.args.i (omega arith), c.requires.0.few)

pub slice_bounds-c-items-end : goal.slice_bounds-c-items-end
slice_bounds-c-items-end c = omega (arith, c.from-len.ensures, c.requires.0.short c.args.i (omega arith), c.requires.0.room)

pub next_node-r-requires : goal.next_node-r-requires
next_node-r-requires c = let a = max_pattern * c.args.i in
    F.asks _ _ _ c.requires.0 _ _ _ c.requires.1 c.requires.2 _ _ c.loop-m.invariant (omega (arith, c.from-len.ensures)) _ (part_at c.args.pats.now a (a + c.from-len.result) c.loop-m.m (omega arith))

pub returns-then-r-eq0 : goal.returns-then-r-eq0
returns-then-r-eq0 c = let a = max_pattern * c.args.i in
    F.stopped _ _ _ c.requires.0 _ _ _ c.requires.1 c.requires.2 _ _ c.loop-m.invariant (omega (arith, c.from-len.ensures)) _ (part_at c.args.pats.now a (a + c.from-len.result) c.loop-m.m (omega arith)) _ c.next_node-r.ensures c.if-r-eq0.true

pub loop-m-preserved : goal.loop-m-preserved
loop-m-preserved c = let a = max_pattern * c.args.i in
    F.next _ _ _ c.requires.0 _ _ _ c.requires.1 c.requires.2 _ _ c.loop-m.invariant (omega (arith, c.from-len.ensures)) _ (part_at c.args.pats.now a (a + c.from-len.result) c.loop-m.m (omega arith)) _ c.next_node-r.ensures c.if-r-eq0.false

pub returns : goal.returns
returns c = F.ended _ _ _ c.requires.0 _ _ _ c.requires.1 c.requires.2 _ _ c.loop-m.invariant (omega (arith, c.from-len.ensures)) _ (omega arith)
