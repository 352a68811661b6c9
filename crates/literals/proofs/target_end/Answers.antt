-- `literals::target_end` meets its contract.
-- Assumes nothing.
use Prim.Native.Nat.{◌+◌}
use mathlib.Core.Path.{◌≡◌, sym, ap, ◌∙◌}
use mathlib.Core.Bool.{Bool, cond}
use native.Mathlib.Omega.{arith}
use lib.ListN.{length}
use Rattle.literals.proofs.Ends.{other_letter, that_letter}
use Rattle.literals.proofs.target_end.Goals as goal

pub returns-then-target-frame : goal.returns-then-target-frame
returns-then-target-frame c = let n : length c.args.target.now ≡ 1 = omega (arith, c.requires.0, c.if-target-lt2.true) in
    other_letter c.args.target.now c.args.frame.now c.args.i n c.requires.1 c.if-target-frame.true

pub returns-then-target-lt2 : goal.returns-then-target-lt2
returns-then-target-lt2 c = let n : length c.args.target.now ≡ 1 = omega (arith, c.requires.0, c.if-target-lt2.true) in
    that_letter c.args.target.now c.args.frame.now c.args.i n c.requires.1 c.if-target-frame.false

pub returns-then-not-starts_at : goal.returns-then-not-starts_at
returns-then-not-starts_at c = sym (ap (λ (b : Bool). cond b (c.args.i + length c.args.target.now) 0) (sym c.starts_at.ensures ∙ c.if-not-starts_at.true))

pub returns : goal.returns
returns c = sym (ap (λ (b : Bool). cond b (c.args.i + length c.args.target.now) 0) (sym c.starts_at.ensures ∙ c.if-not-starts_at.false))
