-- `write_from` and `write_under` meet their contracts: the own entry, then one successor after another.
-- Assumes nothing.
use Rattle.std.proofs.Common.{arith}
use mathlib.Core.Path.{◌≡◌, ap, ◌∙◌}
use Prim.Native.Nat.{◌+◌}
use Rattle.automaton.specs.Automaton.{key_of, val_of}
use Rattle.states.proofs.Parts.{slice_at, slice_end}
use Rattle.readout.proofs.Descent.{from_own, from_none, from_under, from_all, descending_begin, descending_end, step_asks, descending_next}
use Rattle.readout.proofs.writing.+write_from_write_under.Goals as goal

pub write_from-write_own-to-requires : goal.write_from-write_own-to-requires
write_from-write_own-to-requires t c = from_own _ _ _ _ _ _ _ c.requires

pub write_from-returns-then-left-eq0 : goal.write_from-returns-then-left-eq0
write_from-returns-then-left-eq0 t c = from_none _ _ _ _ _ _ _ c.requires _ _ _ c.write_own-to.ensures c.if-left-eq0.true

pub write_from-write_under-requires : goal.write_from-write_under-requires
write_from-write_under-requires t c = (omega arith, from_under _ _ _ _ _ _ _ c.requires _ _ _ c.write_own-to.ensures c.if-left-eq0.false)

pub write_from-returns : goal.write_from-returns
write_from-returns t c = from_all _ _ _ _ _ _ _ c.requires _ _ _ c.write_own-to.ensures c.if-left-eq0.false _ _ _ c.write_under.ensures

pub write_under-loop-cell-init : goal.write_under-loop-cell-init
write_under-loop-cell-init t c =
    let z : c.row_cells-s.result.from + 0 ≡ c.row_cells-s.result.from = omega arith in
    rw z (descending_begin _ _ _ _ _ _ _ _ c.requires.0 c.requires.1 _ _ _ c.row_cells-s.ensures c.first-end.ensures)

pub write_under-write_from-to-requires : goal.write_under-write_from-to-requires
write_under-write_from-to-requires t c =
    let w = c.row_cells-s.ensures.within in
    let m = c.first-end.ensures.most in
    let s = slice_at c.args.words.now c.row_cells-s.result.from c.first-end.result c.loop-cell.cell-index (omega arith) c.loop-cell-test.true in
    (omega arith, step_asks _ _ _ _ _ _ _ _ c.requires.0 c.requires.1 _ _ _ _ _ _ c.loop-cell.invariant s.1 _ _ (c.letter.ensures ∙ ap key_of s.0) (c.val-next.ensures.0 ∙ ap val_of s.0))

pub write_under-loop-cell-preserved : goal.write_under-loop-cell-preserved
write_under-loop-cell-preserved t c =
    let w = c.row_cells-s.ensures.within in
    let m = c.first-end.ensures.most in
    let s = slice_at c.args.words.now c.row_cells-s.result.from c.first-end.result c.loop-cell.cell-index (omega arith) c.loop-cell-test.true in
    let z : c.row_cells-s.result.from + (c.loop-cell.cell-index + 1) ≡ c.row_cells-s.result.from + c.loop-cell.cell-index + 1 = omega arith in
    rw z (descending_next _ _ _ _ _ _ _ _ c.requires.0 c.requires.1 _ _ _ _ _ _ c.loop-cell.invariant s.1 _ _ (c.letter.ensures ∙ ap key_of s.0) (c.val-next.ensures.0 ∙ ap val_of s.0) _ _ _ c.write_from-to.ensures)

pub write_under-returns : goal.write_under-returns
write_under-returns t c =
    let w = c.row_cells-s.ensures.within in
    let m = c.first-end.ensures.most in
    let e = slice_end c.args.words.now c.row_cells-s.result.from c.first-end.result c.loop-cell.cell-index (omega arith) c.loop-cell-test.false in
    descending_end _ _ _ _ _ _ _ _ c.requires.0 c.requires.1 _ _ _ _ _ _ c.loop-cell.invariant e
