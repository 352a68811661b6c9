-- `slots::relocate` meets its contract: the slots between the two places move down, or up.
-- Assumes nothing.
use Prim.Native.Nat.{◌+◌, ◌-◌, ◌*◌}
use mathlib.Core.Path.{◌∙◌}
use native.Mathlib.Omega.{arith}
use Rattle.image.specs.Image.{slot_size, slot_start}
use Rattle.slots.proofs.Laid.{up_laid, down_laid}
use Rattle.slots.proofs.Moves.{moved}
use Rattle.slots.proofs.relocate.Goals as goal
use Rattle.slots.proofs.relocate.Goals.{then-k-p, else-k-p}

pub returns : goal.returns
returns c = let d = c.args.image.now in
    let k = c.args.k in
    let p = c.args.p in
    let n = c.rule_count-count in
    elim c.if-k-p.branch [
      | then-k-p w ↦ up_laid d (λ i. (c.slice_known-1.given i).fits) c.requires.0 _ n.ensures.0 _ c.edit_count-edits.ensures _ c.last_issued-last.ensures (omega (arith, n.ensures.0)) k (omega (arith, n.ensures.0)) p (omega (arith, n.ensures.0)) _ c.rule_at-x.ensures _ _ c.put_head.ensures _ (omega arith)
          (w.image-is ∙ moved d _ (slot_start k + slot_size) (slot_start p + slot_size) (slot_start k) (slot_size * (p - k)) (omega arith) w.copy_within.ensures.after) c.put_rule.ensures
      | else-k-p w ↦ down_laid d (λ i. (c.slice_known-1.given i).fits) c.requires.0 _ n.ensures.0 _ c.edit_count-edits.ensures _ c.last_issued-last.ensures (omega (arith, n.ensures.0)) k (omega (arith, n.ensures.0)) p (omega (arith, n.ensures.0)) _ c.rule_at-x.ensures _ _ c.put_head.ensures _ (omega arith)
          (w.image-is ∙ moved d _ (slot_start p) (slot_start k) (slot_start p + slot_size) (slot_size * (k - p)) (omega arith) w.copy_within-else-k-p.ensures.after) c.put_rule.ensures
    ]
