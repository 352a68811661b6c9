-- The loop that puts each place into the set of its pattern's state.
-- Assumes nothing.
use Prim.Native.Nat.{◌+◌, ◌*◌, ◌≤◌}
use lib.ListN.{length}
use Rattle.tables.specs.Words.{set_size}
use Rattle.side.proofs.Filling as F
use native.Mathlib.Omega.{arith}
use Rattle.side.proofs.own_sets.Goals as goal

pub loop-i-init : goal.loop-i-init
loop-i-init c = let pre = c.requires in
    F.own-begin _ _ _ _ _ c.args.rows.now pre.0 pre.1 pre.2 pre.3 pre.4 pre.5

pub overflow_add-e : goal.overflow_add-e
overflow_add-e c = let pre = c.requires in
    omega (arith, c.from.ensures, pre.0.few, pre.0.short c.loop-i.i (omega arith))

pub state_of-q-requires : goal.state_of-q-requires
state_of-q-requires c = let pre = c.requires in
    F.own-asks _ _ _ _ _ _ pre.0 pre.1 pre.2 pre.3 pre.4 _ _ c.loop-i.invariant (omega arith) _ c.from.ensures

pub put_place-requires : goal.put_place-requires
put_place-requires c = let pre = c.requires in
    let g : set_size * c.state_of-q.result + set_size ≤ length c.loop-i.sets = omega (arith, c.state_of-q.ensures.1, pre.3, c.loop-i.invariant.sets_past.len) in
    (g, omega (arith, pre.0.few))

pub loop-i-preserved : goal.loop-i-preserved
loop-i-preserved c = let pre = c.requires in
    F.own-another _ _ _ _ _ c.args.rows.now pre.0 pre.1 pre.2 pre.3 pre.4 _ _ c.loop-i.invariant (omega arith) _ c.from.ensures _ _ c.state_of-q.ensures.0 c.state_of-q.ensures.1 c.put_place.ensures

pub returns : goal.returns
returns c = let pre = c.requires in
    F.own-end _ _ _ _ _ c.args.rows.now pre.0 pre.1 pre.2 pre.3 pre.4 _ _ c.loop-i.invariant (omega arith)
