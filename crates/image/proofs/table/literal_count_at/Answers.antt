-- `image::table::literal_count_at` meets its contract.
-- Assumes nothing.
use mathlib.Core.Path.{sym, ◌∙◌}
use Rattle.image.proofs.Entries.{held_slot_inside, held_left_field, held_right_field}
use Rattle.image.proofs.Lent.{masks_long, count_by}
use Rattle.image.proofs.ClassFree.{class_free_count}
use native.Mathlib.Omega.{arith}
use Rattle.image.proofs.table.literal_count_at.Goals as goal

pub without_classes-requires : goal.without_classes-requires
without_classes-requires c = omega (arith, held_slot_inside c.args.image.now c.requires.0 c.args.place c.requires.1)

pub returns-then-without_classes : goal.returns-then-without_classes
returns-then-without_classes c = class_free_count c.args.image.now c.requires.0 c.args.place c.requires.1 (sym c.without_classes.ensures ∙ c.if-without_classes.true)

pub run_at-left-requires : goal.run_at-left-requires
run_at-left-requires c = let f = held_left_field c.args.image.now c.requires.0 c.args.place c.requires.1 in (f.len-in, f.run_in)

pub run_at-right-requires : goal.run_at-right-requires
run_at-right-requires c = let f = held_right_field c.args.image.now c.requires.0 c.args.place c.requires.1 in (f.len-in, f.run_in)

pub literal_count-requires : goal.literal_count-requires
literal_count-requires c = masks_long c.args.image.now c.requires.0.room _ c.masks.ensures

pub returns : goal.returns
returns c = count_by c.args.image.now c.args.place c.literal_count.result _ _ _ c.masks.ensures (c.run_at-left.ensures ∙ (held_left_field c.args.image.now c.requires.0 c.args.place c.requires.1).is) (c.run_at-right.ensures ∙ (held_right_field c.args.image.now c.requires.0 c.args.place c.requires.1).is) c.literal_count.ensures
