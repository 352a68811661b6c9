-- The names of a sheet are judged in turn.
-- Assumes nothing.
use Prim.Native.Nat.{◌-◌}
use Rattle.passes.specs.Passes.{memory, Sized}
use Rattle.sheet_judging.proofs.Progress as P
use Rattle.sheet_judging.proofs.judge_sheet.Given as goal

abbrev pub invariant-loop-tree : goal.invariant-loop-tree
invariant-loop-tree l = P.JudgedTo l.compiled.words.now l.compiled.sets.now l.compiled.left_states l.compiled.right_states l.fit l.image l.list l.sheet l.limit l.initial.tree l.initial.ends l.initial.starts l.initial.kept l.tree l.ends l.starts l.kept l.p × Sized (memory l.found l.left l.right)

abbrev pub decreases-loop-tree : goal.decreases-loop-tree
decreases-loop-tree l = l.limit - l.p.count
