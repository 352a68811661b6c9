-- `classes::runs::grown` meets its contract.
-- Assumes nothing.
use Prim.Native.Nat.{ℕ, ◌*◌, ◌≤◌}
use mathlib.Core.Path.{sym, ap, ◌∙◌}
use native.Mathlib.Nat.{mul-le-mul, mul-one}
use native.Mathlib.Omega.{arith}
use Rattle.classes.specs.Counting.{capped}
use Rattle.classes.proofs.Standing.{alone_long}
use Rattle.classes.proofs.Scan.{cap_few}
use Rattle.classes.proofs.runs.grown.Goals as goal

pub returns-then-symbol-lt-FIRST_CLASS : goal.returns-then-symbol-lt-FIRST_CLASS
returns-then-symbol-lt-FIRST_CLASS c = (cap_few c.args.n c.requires.1 ∙ ap capped (sym (mul-one c.args.n) ∙ ap (λ (m : ℕ). c.args.n * m) (alone_long c.args.masks.now c.args.symbol c.if-symbol-lt-FIRST_CLASS.true)), c.requires.1)

pub overflow_mul-n : goal.overflow_mul-n
overflow_mul-n c = let h : c.args.n ≤ 513 = c.requires.1 in let g : c.size_of.result ≤ 64 = c.size_of.ensures.1 in omega (arith, mul-le-mul h g)

pub returns : goal.returns
returns c = (c.cap.ensures.0 ∙ ap (λ (m : ℕ). capped (c.args.n * m)) c.size_of.ensures.0, c.cap.ensures.1)
