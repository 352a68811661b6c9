-- The loop over the symbols of one pattern.
-- Assumes nothing.
use Prim.Native.Nat.{◌+◌, ◌*◌}
use native.Mathlib.Omega.{arith}
use Rattle.rules.specs.Limits.{max_pattern}
use Rattle.side.proofs.Running.{part_at}
use Rattle.side.proofs.Counting as C
use Rattle.side.proofs.number_one.Goals as goal

pub loop-symbol-init : goal.loop-symbol-init
loop-symbol-init c = C.begin _ _ _ c.requires.0 _ c.requires.2 _ c.requires.3 c.requires.1

pub overflow_add-e : goal.overflow_add-e
overflow_add-e c = let pre = c.requires in
    omega (arith, c.from.ensures, pre.0.short c.args.i (omega arith), pre.0.few)

pub slice_bounds-symbol-items-end : goal.slice_bounds-symbol-items-end
slice_bounds-symbol-items-end c = let pre = c.requires in
    omega (arith, c.from.ensures, pre.0.short c.args.i (omega arith), pre.0.room)

pub descend-at-requires : goal.descend-at-requires
descend-at-requires c = let pre = c.requires in
    C.asks _ _ _ pre.0 _ pre.2 _ _ _ c.loop-symbol.invariant (omega (arith, c.from.ensures)) _ (part_at c.args.pats.now (max_pattern * c.args.i) (max_pattern * c.args.i + c.from.result) c.loop-symbol.symbol-index (omega arith))

pub loop-symbol-preserved : goal.loop-symbol-preserved
loop-symbol-preserved c = let pre = c.requires in
    C.next _ _ _ pre.0 _ pre.2 _ _ _ c.loop-symbol.invariant (omega (arith, c.from.ensures)) _ (part_at c.args.pats.now (max_pattern * c.args.i) (max_pattern * c.args.i + c.from.result) c.loop-symbol.symbol-index (omega arith)) _ _ c.descend-at.ensures

pub returns : goal.returns
returns c = let pre = c.requires in
    C.finished _ _ _ pre.0 _ pre.2 _ _ _ c.loop-symbol.invariant (omega (arith, c.from.ensures))
