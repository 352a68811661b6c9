-- `passes::run_words` meets its contract: one word more at each turn.
-- Assumes nothing.
use Prim.Native.Nat.{◌+◌, ◌-◌}
use lib.ListN.{length}
use Rattle.passes.specs.Passes.{memory}
use Rattle.passes.proofs.WordsPassed.{PassedTo}
use Rattle.passes.proofs.run_words.Given as goal

abbrev pub invariant-loop-from : goal.invariant-loop-from
invariant-loop-from l = PassedTo l.compiled.words.now l.compiled.left_states l.compiled.right_states l.fit l.list l.name (memory l.found l.left l.right) l.steps l.from

abbrev pub decreases-loop-from : goal.decreases-loop-from
decreases-loop-from l = length l.name + 2 - l.from
