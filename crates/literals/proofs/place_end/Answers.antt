-- `literals::place_end` meets its contract: the literal rule at p is literal rule j of the rule at its owner's place.
-- Assumes nothing.
use mathlib.Core.Path.{ap, ◌∙◌}
use native.Mathlib.Omega.{arith}
use lib.ListN.{length}
use Rattle.image.proofs.Entries.{entry_shaped}
use Rattle.literals.proofs.Places.{masks-room, left-some, right-some, literal-end}
use Rattle.literals.proofs.place_end.Goals as goal

pub literal_end-requires : goal.literal_end-requires
literal_end-requires c = (
  masks-room c.args.image.now c.requires.0 c.args.p c.requires.1.0 _ c.owner_at-place.ensures.0 _ c.ordinal_at-j.ensures _ c.masks-masks.ensures,
  (
    left-some c.args.image.now c.requires.0 c.args.p c.requires.1.0 _ c.owner_at-place.ensures.0 _ c.ordinal_at-j.ensures _ c.masks-masks.ensures _ _ _ c.left_at-left.ensures c.target_at-target.ensures c.right_at-right.ensures,
    (right-some c.args.image.now c.requires.0 c.args.p c.requires.1.0 _ c.owner_at-place.ensures.0 _ c.ordinal_at-j.ensures _ c.masks-masks.ensures _ _ _ c.left_at-left.ensures c.target_at-target.ensures c.right_at-right.ensures, (omega (arith, ap length c.target_at-target.ensures, (entry_shaped c.args.image.now c.requires.0 _ c.owner_at-place.ensures.1).target-least), c.requires.1.1)),
  ),
)

pub returns : goal.returns
returns c = c.literal_end.ensures ∙ literal-end c.args.image.now c.requires.0 c.args.p c.requires.1.0 _ c.owner_at-place.ensures.0 _ c.ordinal_at-j.ensures _ c.masks-masks.ensures _ _ _ c.left_at-left.ensures c.target_at-target.ensures c.right_at-right.ensures c.args.frame.now c.args.i
