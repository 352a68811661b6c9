-- `compaction::compact` meets its contract.
-- Assumes nothing.
use Rattle.compaction.proofs.Moves.{Compacting, compact_begin, compact_next, compact_fits, swept}
use native.Mathlib.Omega.{arith}
use Prim.Native.Nat.{◌+◌}
use mathlib.Core.Path.{◌≡◌, sym, refl}
use Rattle.compaction.proofs.compact.Goals as goal
use Rattle.compaction.proofs.compact.Goals.{else-loop-i-test, then-loop-i-test+else-i-top}

pub loop-i-init : goal.loop-i-init
loop-i-init c = (omega arith, compact_begin _ _ _ c.requires.0.laid)

pub keep_row-k-requires : goal.keep_row-k-requires
keep_row-k-requires c = compact_fits _ _ _ _ _ _ _ c.requires.0 (omega arith) c.loop-i.invariant.1

pub loop-i-preserved : goal.loop-i-preserved
loop-i-preserved c = (omega arith, compact_next _ _ _ _ _ _ _ _ _ _ c.requires.0 c.requires.1 (omega arith) c.loop-i.invariant.1 c.keep_row-k.ensures)

pub returns : goal.returns
returns c =
    let d : Compacting c.args.words.now c.args.marks.now (c.args.top + 1) c.loop-i-test.k c.loop-i-test.words c.loop-i-test.marks =
    elim c.loop-i-test.branch [
      | else-loop-i-test w ↦
          let e : c.loop-i.i ≡ c.args.top + 1 = omega arith in
          rw w.k-is (rw w.words-is (rw w.marks-is (rw (sym e) c.loop-i.invariant.1)))
      | then-loop-i-test+else-i-top w ↦
          let e : c.loop-i.i + 1 ≡ c.args.top + 1 = omega arith in
          rw w.k-is (rw w.words-is (rw w.marks-is (rw (sym e) (compact_next _ _ _ _ _ _ _ _ _ _ c.requires.0 c.requires.1 (omega arith) c.loop-i.invariant.1 w.keep_row-k.ensures))))
    ] in
    swept _ _ _ _ _ _ _ c.requires.0 c.requires.1 refl d
