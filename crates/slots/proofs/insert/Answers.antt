-- `slots::insert` meets its contract.
-- Assumes nothing.
use Prim.Native.Nat.{◌+◌, ◌-◌, ◌*◌}
use native.Mathlib.Omega.{arith}
use Rattle.slots.proofs.Laid.{insert_laid}
use Rattle.image.specs.Image.{slot_size, slot_start}
use Rattle.slots.proofs.Moves.{moved}
use Rattle.slots.proofs.insert.Goals as goal

pub returns : goal.returns
returns c = insert_laid c.args.image.now (λ k. (c.slice_known-1.given k).fits) c.requires.0 _ c.rule_count-count.ensures.0 _ c.edit_count-edits.ensures c.args.x c.args.last c.args.p _ _ _ (omega (arith, c.rule_count-count.ensures.0)) (omega (arith, c.rule_count-count.ensures.0)) (moved c.args.image.now _ (slot_start c.args.p) (slot_start c.rule_count-count.result) (slot_start c.args.p + slot_size) (slot_size * (c.rule_count-count.result - c.args.p)) (omega (arith, c.rule_count-count.ensures.0)) c.copy_within.ensures.after) c.put_rule.ensures c.put_head.ensures
