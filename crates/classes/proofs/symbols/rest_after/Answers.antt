-- `classes::symbols::rest_after` meets its contract.
-- Assumes nothing.
use Prim.Native.Nat.{ℕ, ◌/◌, ◌≤◌}
use mathlib.Core.Path.{ap, ◌∙◌}
use native.Mathlib.Omega.{arith}
use lib.ListN.{length}
use Rattle.classes.proofs.Standing.{alone_rest}
use Rattle.classes.proofs.symbols.rest_after.Goals as goal

pub returns-then-symbol-lt-FIRST_CLASS : goal.returns-then-symbol-lt-FIRST_CLASS
returns-then-symbol-lt-FIRST_CLASS c = alone_rest c.args.masks.now c.args.symbol c.if-symbol-lt-FIRST_CLASS.true c.args.q

pub nonzero_div-result : goal.nonzero_div-result
nonzero_div-result c = let h : 1 ≤ c.size_in.result = omega (arith, c.size_in.ensures.0, ap length c.mask_of.ensures, c.requires.1) in
    omega arith

pub returns : goal.returns
returns c = ap (λ (n : ℕ). c.args.q / n) (c.size_in.ensures.0 ∙ ap length c.mask_of.ensures)
