-- The loop over the patterns that numbers their prefixes.
-- Assumes nothing.
use Rattle.tables.specs.Words.{row_size}
use Rattle.side.specs.Patterns.{state_count}
use Prim.Native.Nat.{◌+◌, ◌*◌, ◌≤◌}
use lib.ListN.{length}
use Rattle.side.proofs.Counting as C
use Rattle.side.proofs.Inserting.{patterns_less, count-grows, count-some}
use native.Mathlib.Omega.{arith}
use Rattle.side.proofs.number_all.Goals as goal

pub clear_row-requires : goal.clear_row-requires
clear_row-requires c = let h = count-some c.args.pats.now c.args.lens.now c.args.n in
    let g : row_size ≤ length c.args.rows.now = omega (arith, c.requires.1) in g

pub loop-i-init : goal.loop-i-init
loop-i-init c = C.first _ _ _ _ c.clear_row.ensures

pub number_one-count-requires : goal.number_one-count-requires
number_one-count-requires c = let r = c.clear_row in
    let pre = c.requires in
    let ps = c.args.pats.now in
    let ls = c.args.lens.now in
    let h : c.loop-i.i + 1 ≤ c.args.n = omega arith in
    let g = count-grows ps ls (c.loop-i.i + 1) c.args.n h in
    let m : row_size * state_count ps ls (c.loop-i.i + 1) ≤ length c.loop-i.rows = omega (arith, pre.1, c.loop-i.invariant.past.len, r.auto.rows) in
    (patterns_less ps ls (c.loop-i.i + 1) c.args.n h pre.0, c.loop-i.invariant.count, m, c.loop-i.invariant.rows)

pub loop-i-preserved : goal.loop-i-preserved
loop-i-preserved c = C.another _ _ c.args.n _ _ _ _ _ _ (omega arith) c.loop-i.invariant c.number_one-count.ensures

pub returns : goal.returns
returns c = let r = c.clear_row in
    C.counted c.args.n (omega arith) (C.all _ _ _ _ _ _ _ r.ensures c.loop-i.invariant)
