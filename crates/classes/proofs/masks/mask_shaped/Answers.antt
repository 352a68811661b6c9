-- `classes::masks::mask_shaped` meets its contract.
-- Assumes nothing.
use Prim.Native.Nat.{ℕ, ◌^◌, ◌<◌}
use mathlib.Core.Path.{ap, ◌∙◌}
use native.Mathlib.Omega.{arith}
use lib.Dec.{leb}
use Rattle.classes.proofs.Shapes.{shaped_odd, shaped_high, shaped_rest}
use Rattle.classes.proofs.masks.mask_shaped.Goals as goal

pub returns-then-mask-eq1 : goal.returns-then-mask-eq1
returns-then-mask-eq1 c = shaped_odd c.args.mask c.if-mask-eq1.true

pub returns-then-mask-ge9223372036854775808 : goal.returns-then-mask-ge9223372036854775808
returns-then-mask-ge9223372036854775808 c = let u : c.args.mask < 2 ^ 64 = omega arith in
    shaped_high c.args.mask c.if-mask-ge9223372036854775808.true u

pub returns : goal.returns
returns c = ap (λ (n : ℕ). leb n 32) c.size_in.ensures.0 ∙ shaped_rest c.args.mask c.if-mask-eq1.false c.if-mask-ge9223372036854775808.false
