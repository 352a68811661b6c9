-- `patterns::put_pattern` meets its contract: the literal rule at p is literal rule j of the rule at its owner's place.
-- Assumes nothing.
use mathlib.Core.Path.{refl, ap}
use native.Mathlib.Omega.{arith}
use lib.ListN.{length}
use Rattle.literals.proofs.Places as P
use Rattle.patterns.proofs.Symbols as S
use Rattle.patterns.proofs.put_pattern.Goals as goal

pub put_right-requires : goal.put_right-requires
put_right-requires c = (
  P.masks-room c.args.rules.bytes.now c.args.rules.sound c.args.p c.requires.0 _ c.owner_at-place.ensures.0 _ c.ordinal_at-j.ensures _ c.masks-masks.ensures,
  P.right-some c.args.rules.bytes.now c.args.rules.sound c.args.p c.requires.0 _ c.owner_at-place.ensures.0 _ c.ordinal_at-j.ensures _ c.masks-masks.ensures _ _ _ refl c.target_at-target.ensures c.right_at-after.ensures,
  omega (
    arith,
    c.requires.1,
    ap length c.right_at-after.ensures,
    P.right-long c.args.rules.bytes.now c.args.rules.sound c.args.p c.requires.0 _ c.owner_at-place.ensures.0 _ c.ordinal_at-j.ensures,
    S.right-most c.args.rules.bytes.now c.args.rules.sound c.args.p c.requires.0,
    ap length c.target_at-target.ensures,
    P.target-long c.args.rules.bytes.now c.args.rules.sound c.args.p c.requires.0 _ c.owner_at-place.ensures.0 _ c.ordinal_at-j.ensures,
    S.target-most c.args.rules.bytes.now c.args.rules.sound c.args.p c.requires.0,
  ),
)

pub returns-then-right : goal.returns-then-right
returns-then-right c = S.put_right c.args.rules.bytes.now c.args.right c.args.p c.if-right.true _ _ (P.literal-target c.args.rules.bytes.now c.args.rules.sound c.args.p c.requires.0 _ c.owner_at-place.ensures.0 _ c.ordinal_at-j.ensures _ c.masks-masks.ensures _ _ _ refl c.target_at-target.ensures c.right_at-after.ensures) (P.literal-right c.args.rules.bytes.now c.args.rules.sound c.args.p c.requires.0 _ c.owner_at-place.ensures.0 _ c.ordinal_at-j.ensures _ c.masks-masks.ensures _ _ _ refl c.target_at-target.ensures c.right_at-after.ensures) c.put_right.ensures

pub put_left-requires : goal.put_left-requires
put_left-requires c = (
  P.masks-room c.args.rules.bytes.now c.args.rules.sound c.args.p c.requires.0 _ c.owner_at-place.ensures.0 _ c.ordinal_at-j.ensures _ c.masks-masks.ensures,
  P.left-some c.args.rules.bytes.now c.args.rules.sound c.args.p c.requires.0 _ c.owner_at-place.ensures.0 _ c.ordinal_at-j.ensures _ c.masks-masks.ensures _ _ _ c.left_at-left.ensures refl c.right_at-after.ensures,
  P.right-some c.args.rules.bytes.now c.args.rules.sound c.args.p c.requires.0 _ c.owner_at-place.ensures.0 _ c.ordinal_at-j.ensures _ c.masks-masks.ensures _ _ _ c.left_at-left.ensures refl c.right_at-after.ensures,
  omega (arith, c.requires.1, ap length c.left_at-left.ensures, P.left-long c.args.rules.bytes.now c.args.rules.sound c.args.p c.requires.0 _ c.owner_at-place.ensures.0 _ c.ordinal_at-j.ensures, S.left-most c.args.rules.bytes.now c.args.rules.sound c.args.p c.requires.0),
)

pub returns : goal.returns
returns c = S.put-left c.args.rules.bytes.now c.args.right c.args.p c.if-right.false _ (P.literal-left c.args.rules.bytes.now c.args.rules.sound c.args.p c.requires.0 _ c.owner_at-place.ensures.0 _ c.ordinal_at-j.ensures _ c.masks-masks.ensures _ _ _ c.left_at-left.ensures refl c.right_at-after.ensures) c.put_left.ensures
