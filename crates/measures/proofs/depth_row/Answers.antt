-- `measures::depth_row` meets its contract: the longest name under the letters passed is measured.
-- Assumes nothing.
use mathlib.Core.Path.{◌≡◌, ap, ◌∙◌, subst}
use Prim.Native.Nat.{ℕ, ◌+◌}
use native.Mathlib.Omega.{arith}
use Rattle.automaton.specs.Automaton.{val_of}
use Rattle.states.proofs.Parts.{slice_at, slice_end}
use Rattle.measures.proofs.Deep.{Deepening, deepening_begin, deepening_next, deepening_end, depth_fits, depth_capped}
use Rattle.measures.proofs.depth_row.Goals as goal

pub loop-x-init : goal.loop-x-init
loop-x-init c =
    let z : c.row_cells-c.result.from ≡ c.row_cells-c.result.from + 0 = omega arith in
    subst (λ (i : ℕ). Deepening c.args.words.now c.args.q c.row_cells-c.result.from c.first-e.result i 0) z
    (deepening_begin _ _ _ _ _ _ c.row_cells-c.ensures c.first-e.ensures)

pub depth_at-requires : goal.depth_at-requires
depth_at-requires c =
    let w = c.row_cells-c.ensures.within in
    let m = c.first-e.ensures.most in
    let s = slice_at c.args.words.now c.row_cells-c.result.from c.first-e.result c.loop-x.x-index (omega arith) c.loop-x-test.true in
    depth_fits _ _ _ _ c.requires _ _ _ _ c.loop-x.invariant s.1 _ (c.val.ensures.0 ∙ ap val_of s.0)

pub loop-x-preserved : goal.loop-x-preserved
loop-x-preserved c =
    let w = c.row_cells-c.ensures.within in
    let m = c.first-e.ensures.most in
    let s = slice_at c.args.words.now c.row_cells-c.result.from c.first-e.result c.loop-x.x-index (omega arith) c.loop-x-test.true in
    let z : c.row_cells-c.result.from + c.loop-x.x-index + 1 ≡ c.row_cells-c.result.from + (c.loop-x.x-index + 1) = omega arith in
    subst (λ (i : ℕ). Deepening c.args.words.now c.args.q c.row_cells-c.result.from c.first-e.result i c.max-d.result) z
    (deepening_next _ _ _ _ c.requires _ _ _ _ c.loop-x.invariant s.1 _ (c.val.ensures.0 ∙ ap val_of s.0) _ _ c.depth_at.ensures c.max-d.ensures)

pub returns : goal.returns
returns c =
    let w = c.row_cells-c.ensures.within in
    let m = c.first-e.ensures.most in
    let e = slice_end c.args.words.now c.row_cells-c.result.from c.first-e.result c.loop-x.x-index (omega arith) c.loop-x-test.false in
    depth_capped _ _ _ _ c.requires 63 c.loop-x.d _ (omega arith) (deepening_end _ _ _ _ c.requires _ _ _ _ c.loop-x.invariant e) c.min.ensures
