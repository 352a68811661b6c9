-- `table_reading::count_shared` meets its contract. The loop's invariant: those counted and those from word j on are all.
-- Assumes nothing.
use native.Mathlib.Omega.{arith}
use Rattle.tables.specs.SetWords.{meet_word}
use Rattle.tables.proofs.SetWords.{ones_next, ones_end}
use Rattle.table_reading.proofs.count_shared.Goals as goal

pub loop-j-init : goal.loop-j-init
loop-j-init c = (omega arith, omega arith)

pub overflow_add-count : goal.overflow_add-count
overflow_add-count c = omega (arith, c.loop-j.invariant.0, c.shared_in-count.ensures.1)

pub loop-j-preserved : goal.loop-j-preserved
loop-j-preserved c = let l = c.loop-j in
    let r = c.shared_in-count.ensures in
    (omega (arith, r.1, l.invariant.0), omega (arith, r.0, ones_next (meet_word c.args.sets.now c.args.s c.args.t) l.j 8 (omega arith), l.invariant.1))

pub returns : goal.returns
returns c = let l = c.loop-j in
    let e = ones_end (meet_word c.args.sets.now c.args.s c.args.t) l.j 8 (omega arith) in
    (omega (arith, l.invariant.1), omega (arith, l.invariant.0))
