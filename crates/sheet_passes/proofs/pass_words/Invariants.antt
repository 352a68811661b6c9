-- One word more at each turn.
-- Assumes nothing.
use Prim.Native.Nat.{◌+◌, ◌-◌}
use lib.ListN.{length}
use Rattle.passes.specs.Passes.{memory}
use Rattle.sheet_passes.proofs.InTurn as T
use Rattle.sheet_passes.proofs.pass_words.Given as goal

abbrev pub invariant-loop-from : goal.invariant-loop-from
invariant-loop-from l = T.SharedTo l.compiled.words.now l.compiled.left_states l.compiled.right_states l.fit l.list l.name l.initial.tree l.nodes l.steps (memory l.found l.left l.right) l.tree l.p l.from

abbrev pub decreases-loop-from : goal.decreases-loop-from
decreases-loop-from l = length l.name + 2 - l.from
