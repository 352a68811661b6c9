-- `minimality::walk` meets its contract.
-- Assumes nothing.
use Rattle.minimality.proofs.Keys.{walk_next, walk_no, walk_yes}
use native.Mathlib.Omega.{arith}
use Rattle.minimality.proofs.walk.Goals as goal

pub returns-then-same_rows : goal.returns-then-same_rows
returns-then-same_rows c = walk_no c.args.words.now c.args.t c.loop-i.i c.loop-i.invariant (omega arith) (c.same_rows.ensures.alike c.if-same_rows.true)

pub loop-i-preserved : goal.loop-i-preserved
loop-i-preserved c = walk_next c.args.words.now c.args.t c.loop-i.i c.args.links.now c.requires.linked c.loop-i.invariant (omega arith) (c.same_rows.ensures.differ c.if-same_rows.false) _ c.from-i.ensures

pub returns : goal.returns
returns c = walk_yes _ _ c.loop-i.i c.requires.laid c.loop-i.invariant (omega arith)
