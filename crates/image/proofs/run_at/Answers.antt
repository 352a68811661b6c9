-- `image::run_at` meets its contract.
-- Assumes nothing.
use Prim.Native.Nat.{ℕ, ◌+◌, ◌-◌}
use mathlib.Core.Path.{◌≡◌, ap}
use native.Mathlib.Omega.{arith}
use lib.ListN.{get_or, take, drop}
use Rattle.image.proofs.run_at.Goals as goal

pub overflow_add-end : goal.overflow_add-end
overflow_add-end c = omega (arith, c.requires.1, c.from.ensures)

pub slice_bounds-result-end : goal.slice_bounds-result-end
slice_bounds-result-end c = omega (arith, c.requires.1, c.from.ensures)

pub returns : goal.returns
returns c = let e : c.args.from + c.from.result - c.args.from ≡ get_or c.args.s.now c.args.len 0 = omega (arith, c.from.ensures) in ap (λ (k : ℕ). take k (drop c.args.from c.args.s.now)) e
