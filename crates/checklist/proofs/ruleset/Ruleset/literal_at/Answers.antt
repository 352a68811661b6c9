-- `checklist::ruleset::Ruleset::literal_at` is safe: the symbols of both contexts stand for letters, which have room.
-- Assumes nothing.
use Rattle.std.proofs.Common.{ap, refl, arith, length}
use Rattle.literals.proofs.Places as P
use Rattle.patterns.proofs.Symbols as S
use Rattle.checklist.proofs.ruleset.Ruleset.literal_at.Goals as goal

pub put_choice-rest-requires : goal.put_choice-rest-requires
put_choice-rest-requires c = (
  P.masks-room c.args.self.now.image.bytes.now c.args.self.now.image.sound c.args.p c.requires _ c.owner_at-place.ensures.0 _ c.ordinal_at-ordinal.ensures _ c.masks-masks.ensures,
  (
    P.right-some c.args.self.now.image.bytes.now c.args.self.now.image.sound c.args.p c.requires _ c.owner_at-place.ensures.0 _ c.ordinal_at-ordinal.ensures _ c.masks-masks.ensures _ _ _ c.left_at-left.ensures refl c.right_at-right.ensures,
    omega (
      arith,
      ap length c.right_at-right.ensures,
      P.right-long c.args.self.now.image.bytes.now c.args.self.now.image.sound c.args.p c.requires _ c.owner_at-place.ensures.0 _ c.ordinal_at-ordinal.ensures,
      S.right-most c.args.self.now.image.bytes.now c.args.self.now.image.sound c.args.p c.requires,
    ),
  ),
)

pub put_choice-requires : goal.put_choice-requires
put_choice-requires c = (
  P.masks-room c.args.self.now.image.bytes.now c.args.self.now.image.sound c.args.p c.requires _ c.owner_at-place.ensures.0 _ c.ordinal_at-ordinal.ensures _ c.masks-masks.ensures,
  (
    P.left-some c.args.self.now.image.bytes.now c.args.self.now.image.sound c.args.p c.requires _ c.owner_at-place.ensures.0 _ c.ordinal_at-ordinal.ensures _ c.masks-masks.ensures _ _ _ c.left_at-left.ensures refl c.right_at-right.ensures,
    omega (
      arith,
      ap length c.left_at-left.ensures,
      P.left-long c.args.self.now.image.bytes.now c.args.self.now.image.sound c.args.p c.requires _ c.owner_at-place.ensures.0 _ c.ordinal_at-ordinal.ensures,
      S.left-most c.args.self.now.image.bytes.now c.args.self.now.image.sound c.args.p c.requires,
    ),
  ),
)
