-- `slots::remove` meets its contract.
-- Assumes nothing.
use Prim.Native.Nat.{◌+◌, ◌-◌, ◌*◌}
use native.Mathlib.Omega.{arith}
use Rattle.slots.proofs.Laid.{remove_laid}
use Rattle.image.specs.Image.{slot_size, slot_start}
use Rattle.slots.proofs.Moves.{moved}
use Rattle.slots.proofs.remove.Goals as goal

pub returns : goal.returns
returns c = remove_laid c.args.image.now (λ k. (c.slice_known-1.given k).fits) c.requires.0 _ c.rule_count-count.ensures.0 _ c.edit_count-edits.ensures _ c.last_issued-last.ensures (omega (arith, c.rule_count-count.ensures.0)) c.args.k (omega (arith, c.rule_count-count.ensures.0)) _ _ (moved c.args.image.now _ (slot_start c.args.k + slot_size) (slot_start c.rule_count-count.result) (slot_start c.args.k) (slot_size * (c.rule_count-count.result - 1 - c.args.k)) (omega (arith, c.rule_count-count.ensures.0)) c.copy_within.ensures.after) c.put_head.ensures
