-- `measures::count_row` meets its contract: the names under the letters passed are counted.
-- Assumes nothing.
use mathlib.Core.Path.{◌≡◌, ap, ◌∙◌, subst}
use Prim.Native.Nat.{ℕ, ◌+◌}
use native.Mathlib.Omega.{arith}
use Rattle.automaton.specs.Automaton.{val_of}
use Rattle.states.proofs.Parts.{slice_at, slice_end}
use Rattle.measures.proofs.Counting.{Counting, counting-begin, counting-next, counting_end, count_fits}
use Rattle.measures.proofs.count_row.Goals as goal

pub loop-x-init : goal.loop-x-init
loop-x-init c =
    let z : c.row_cells-c.result.from ≡ c.row_cells-c.result.from + 0 = omega arith in
    subst (λ (i : ℕ). Counting c.args.words.now c.args.q c.row_cells-c.result.from c.first-e.result i c.from-s.result) z
    (counting-begin _ _ _ _ _ _ _ _ c.requires c.row_cells-c.ensures c.first-e.ensures c.from-s.ensures)

pub count_at-s-requires : goal.count_at-s-requires
count_at-s-requires c =
    let w = c.row_cells-c.ensures.within in
    let m = c.first-e.ensures.most in
    let s = slice_at c.args.words.now c.row_cells-c.result.from c.first-e.result c.loop-x.x-index (omega arith) c.loop-x-test.true in
    count_fits _ _ _ _ c.requires _ _ _ _ c.loop-x.invariant s.1 _ (c.val.ensures.0 ∙ ap val_of s.0)

pub loop-x-preserved : goal.loop-x-preserved
loop-x-preserved c =
    let w = c.row_cells-c.ensures.within in
    let m = c.first-e.ensures.most in
    let s = slice_at c.args.words.now c.row_cells-c.result.from c.first-e.result c.loop-x.x-index (omega arith) c.loop-x-test.true in
    let z : c.row_cells-c.result.from + c.loop-x.x-index + 1 ≡ c.row_cells-c.result.from + (c.loop-x.x-index + 1) = omega arith in
    subst (λ (i : ℕ). Counting c.args.words.now c.args.q c.row_cells-c.result.from c.first-e.result i (c.loop-x.s + c.count_at-s.result)) z
    (counting-next _ _ _ _ c.requires _ _ _ _ c.loop-x.invariant s.1 _ (c.val.ensures.0 ∙ ap val_of s.0) _ c.count_at-s.ensures)

pub returns : goal.returns
returns c =
    let w = c.row_cells-c.ensures.within in
    let m = c.first-e.ensures.most in
    let e = slice_end c.args.words.now c.row_cells-c.result.from c.first-e.result c.loop-x.x-index (omega arith) c.loop-x-test.false in
    let t = counting_end _ _ _ _ _ _ _ _ c.requires c.loop-x.invariant e in
    omega (arith, t)
