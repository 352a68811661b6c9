-- `build::fill` meets its contract: the left table and the right one go into their parts of the words; then the head with the edit count and the counts that the fillings gave.
-- Assumes nothing.
use Prim.Native.Nat.{◌*◌, ◌≤◌}
use mathlib.Core.Bool.{false}
use native.Mathlib.Omega.{arith}
use lib.ListN.{length}
use Rattle.tables.specs.Words.{set_size}
use Rattle.patterns.specs.Sides.{side_table}
use Rattle.build.proofs.Joining as J
use Rattle.build.proofs.fill.Goals as goal

pub slice_bounds-fill_part-count : goal.slice_bounds-fill_part-count
slice_bounds-fill_part-count c = omega (arith, c.requires.1)

pub slice_bounds-fill_part-start : goal.slice_bounds-fill_part-start
slice_bounds-fill_part-start c = omega (arith, c.requires.1)

pub fill_part-l-requires : goal.fill_part-l-requires
fill_part-l-requires c = let h : set_size * (side_table c.args.rules.bytes.now false).count ≤ length c.args.sets.now = omega (arith, c.requires.2) in
    (c.requires.0, J.asks₁ _ c.args.words.now c.requires.1, h, c.requires.3)

pub overflow_mul-a : goal.overflow_mul-a
overflow_mul-a c = omega (arith, c.fill_part-l.ensures.count.few)

pub overflow_add-a : goal.overflow_add-a
overflow_add-a c = omega (arith, c.fill_part-l.ensures.count.few)

pub overflow_mul-b : goal.overflow_mul-b
overflow_mul-b c = omega (arith, c.fill_part-l.ensures.count.few)

pub offset_bounds-words-a : goal.offset_bounds-words-a
offset_bounds-words-a c = omega (arith, c.fill_part-l.ensures.count.few)

pub slice_bounds-fill_part-count-2 : goal.slice_bounds-fill_part-count-2
slice_bounds-fill_part-count-2 c = let f = c.fill_part-l.ensures in
    omega (arith, c.requires.1, f.count.is, J.length₁ _ c.args.words.now c.requires.1 _ f.rows _ f.count.is)

pub slice_bounds-fill_part-start-2 : goal.slice_bounds-fill_part-start-2
slice_bounds-fill_part-start-2 c = let f = c.fill_part-l.ensures in
    omega (arith, c.requires.1, f.count.is, J.length₁ _ c.args.words.now c.requires.1 _ f.rows _ f.count.is)

pub offset_bounds-sets-b : goal.offset_bounds-sets-b
offset_bounds-sets-b c = omega (arith, c.fill_part-l.ensures.count.few)

pub slice_bounds-fill_part-count-3 : goal.slice_bounds-fill_part-count-3
slice_bounds-fill_part-count-3 c = let f = c.fill_part-l.ensures in
    omega (arith, c.requires.2, f.count.is, J.set-length _ c.args.sets.now c.requires.2 _ f.sets _ f.count.is)

pub slice_bounds-fill_part-start-3 : goal.slice_bounds-fill_part-start-3
slice_bounds-fill_part-start-3 c = let f = c.fill_part-l.ensures in
    omega (arith, c.requires.2, f.count.is, J.set-length _ c.args.sets.now c.requires.2 _ f.sets _ f.count.is)

pub fill_part-r-requires : goal.fill_part-r-requires
fill_part-r-requires c = let f = c.fill_part-l.ensures in
    (c.requires.0, J.asks₂ _ c.args.words.now c.requires.1 _ f.rows _ f.count.is, J.set-asks _ c.args.sets.now c.requires.2 _ f.sets _ f.count.is, f.count.scratch)

pub overflow_cast-l : goal.overflow_cast-l
overflow_cast-l c = record { fits = omega (arith, c.fill_part-l.ensures.count.few) }

pub overflow_cast-r : goal.overflow_cast-r
overflow_cast-r c = record { fits = omega (arith, c.fill_part-r.ensures.count.few) }

pub put_counts-requires : goal.put_counts-requires
put_counts-requires c = let f = c.fill_part-l.ensures in
    let g = c.fill_part-r.ensures in
    omega (arith, c.requires.1, J.length₂ _ c.args.words.now c.requires.1 _ f.rows _ f.count.is _ g.rows _ g.count.is)

pub shape_of-words : goal.shape_of-words
shape_of-words c = let f = c.fill_part-l.ensures in
    let g = c.fill_part-r.ensures in
    J.headed-length _ c.args.words.now c.requires.1 _ f.rows _ f.count.is _ g.rows _ g.count.is _ _ c.put_counts.ensures

pub shape_of-sets : goal.shape_of-sets
shape_of-sets c = let f = c.fill_part-l.ensures in
    J.sets-kept _ c.args.sets.now c.requires.2 _ f.sets _ f.count.is _ c.fill_part-r.ensures.sets

pub returns : goal.returns
returns c = let f = c.fill_part-l.ensures in
    let g = c.fill_part-r.ensures in
    record {
      words = J.words _ c.args.words.now c.requires.1 _ f.rows _ f.count.is _ g.rows _ g.count.is _ c.edit_count.ensures _ c.put_counts.ensures;
      sets = J.sets _ c.args.sets.now c.requires.2 _ f.sets _ f.count.is _ g.sets;
    }
