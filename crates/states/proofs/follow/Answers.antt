-- `states::follow` meets its contract: the states passed stand in the path, each the successor of the one before.
-- Assumes nothing.
use mathlib.Core.Path.{◌∙◌}
use native.Mathlib.Omega.{arith}
use lib.ListN.{length-set}
use Rattle.states.proofs.Puts.{trace_next}
use Rattle.states.proofs.follow.Goals as goal

pub loop-i-preserved : goal.loop-i-preserved
loop-i-preserved c = let e = c.loop-i.invariant.1 ∙ length-set c.args.path.now 0 c.args.n in
    (trace_next _ _ _ _ _ _ c.requires.0 c.loop-i.invariant.0 (omega arith) (omega arith) _ _ c.from.ensures c.at-q.ensures, simp length-set e)
