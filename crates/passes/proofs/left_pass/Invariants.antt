-- `passes::left_pass` meets its contract, by the loop invariant `Passing`: the states of positions 1 to i are remembered.
-- Assumes nothing.
use Prim.Native.Nat.{◌+◌}
use mathlib.Core.Path.{◌≡◌}
use lib.ListN.{length}
use Rattle.passes.specs.Passes.{rows_at, left_on}
use Rattle.passes.proofs.Passing.{Passing}
use Rattle.passes.proofs.left_pass.Given as goal

abbrev pub invariant-loop-i : goal.invariant-loop-i
invariant-loop-i l = (l.at.steps ≡ l.steps + l.i) × Passing (left_on (rows_at l.words l.rows l.count) l.steps l.frame) l.count 1 l.i (length l.initial.states) l.states l.at l.i
