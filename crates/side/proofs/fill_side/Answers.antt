-- Numbering, own sets, then the states by length: in the end every row and set is finished.
-- Assumes nothing.
use Prim.Native.Nat.{◌*◌, ◌≤◌}
use lib.ListN.{length}
use Rattle.tables.specs.Words.{row_size, set_size}
use Rattle.side.proofs.Filling as F
use native.Mathlib.Omega.{arith}
use Rattle.side.proofs.fill_side.Goals as goal

pub number_all-count-requires : goal.number_all-count-requires
number_all-count-requires c = (c.requires.0, c.requires.1)

pub clear_sets-requires : goal.clear_sets-requires
clear_sets-requires c = let g : set_size * c.number_all-count.result ≤ length c.args.sets.now = omega (arith, c.number_all-count.ensures.count, c.requires.2) in g

pub own_sets-requires : goal.own_sets-requires
own_sets-requires c = let n = c.number_all-count in
    let g : row_size * n.result ≤ length n.new.rows = omega (arith, n.ensures.count, c.requires.1, n.auto.rows) in
    let h : set_size * n.result ≤ length c.clear_sets.new.sets = omega (arith, n.ensures.count, c.requires.2, c.clear_sets.auto.sets) in
    (c.requires.0, n.ensures.count, g, h, n.ensures.rows, F.none_yet _ _ _ c.requires.0 _ _ _ n.ensures.count c.clear_sets.ensures)

pub loop-d-init : goal.loop-d-init
loop-d-init c = let o = c.own_sets in
    let pre = c.requires in
    F.fill-begin _ _ _ _ _ _ pre.0 c.number_all-count.ensures.count c.number_all-count.ensures.rows o.ensures.0

pub complete_level-requires : goal.complete_level-requires
complete_level-requires c = let o = c.own_sets in
    let pre = c.requires in
    let n = c.number_all-count in
    let i = c.loop-d.invariant in
    let g : row_size * n.result ≤ length c.loop-d.rows = omega (arith, n.ensures.count, pre.1, n.auto.rows, i.rows_past.len) in
    let h : set_size * n.result ≤ length c.loop-d.sets = omega (arith, n.ensures.count, pre.2, c.clear_sets.auto.sets, o.auto.sets, i.sets_past.len) in
    (pre.0, n.ensures.count, g, h, i.from, omega arith, i.level)

pub loop-d-preserved : goal.loop-d-preserved
loop-d-preserved c = let pre = c.requires in
    F.fill-next _ _ _ _ _ _ pre.0 c.number_all-count.ensures.count _ _ _ _ _ (omega (arith, c.loop-d-test.true)) c.loop-d.invariant c.complete_level.ensures

pub returns : goal.returns
returns c = let o = c.own_sets in
    let pre = c.requires in
    let n = c.number_all-count in
    record {
      rows = F.fill-rows _ _ _ _ _ _ pre.0 n.ensures.count _ _ _ c.loop-d.invariant (omega arith) _ pre.1 n.ensures.past;
      sets = F.fill-sets _ _ _ _ _ _ pre.0 n.ensures.count _ _ _ c.loop-d.invariant (omega arith) _ _ pre.2 c.clear_sets.ensures o.ensures.1;
      count = n.ensures.count;
    }
