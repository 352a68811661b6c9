-- `passes::right_pass` meets its contract, by the loop invariant `Passing`: the states of the positions from i on are remembered.
-- Assumes nothing.
use Prim.Native.Nat.{◌+◌, ◌-◌, ◌≤◌, ◌<◌}
use mathlib.Core.Path.{◌≡◌}
use lib.ListN.{length}
use Rattle.passes.specs.Passes.{rows_at, right_on}
use Rattle.passes.proofs.Passing.{Passing}
use Rattle.passes.proofs.right_pass.Given as goal

abbrev pub invariant-loop-i : goal.invariant-loop-i
invariant-loop-i l = (0 < l.i) × (l.i ≤ length l.frame) × (l.at.steps + l.i ≡ l.steps + length l.frame) × Passing (right_on (rows_at l.words l.rows l.count) l.steps l.frame) l.count l.i (length l.frame - 1) (length l.initial.states) l.states l.at l.i
