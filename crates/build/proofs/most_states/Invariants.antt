-- `build::most_states` meets its contract: the lengths of the fields are summed over the literal rules.
-- Assumes nothing.
use Rattle.build.proofs.Bounding as B
use Rattle.build.proofs.most_states.Given as goal

abbrev pub invariant-loop-i : goal.invariant-loop-i
invariant-loop-i l = B.Bounding l.rules.bytes.now l.most l.i
