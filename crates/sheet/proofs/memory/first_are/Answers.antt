-- Whether the first elements are zero.
-- Assumes nothing.
use mathlib.Core.Path.{sym, ◌∙◌}
use native.Mathlib.Omega.{arith}
use Rattle.sheet.proofs.Zeros as Z
use Rattle.sheet.proofs.memory.first_are.Goals as goal
use Rattle.sheet.proofs.memory.first_are.Goals.{then-ne, else-ne}

pub returns-then-s-n : goal.returns-then-s-n
returns-then-s-n g c = Z.begins-short g.T.PartialEq.eq c.args.zero c.args.n c.args.s.now (omega arith)

pub loop-x-preserved : goal.loop-x-preserved
loop-x-preserved g c = let k = c.loop-x in
    elim c.if-ne.branch [
      | then-ne w ↦ Z.seen-other g.T.PartialEq.eq c.args.zero _ k.x-index k.all k.invariant c.loop-x-test.true c.x-item.result c.x-item.is w.if-ne.ensures c.if-ne.all w.all-is
      | else-ne w ↦ Z.seen-same g.T.PartialEq.eq c.args.zero _ k.x-index k.all k.invariant c.loop-x-test.true c.x-item.result c.x-item.is w.if-ne.ensures c.if-ne.all w.all-is
    ]

pub returns : goal.returns
returns g c = let k = c.loop-x in
    Z.seen-all g.T.PartialEq.eq c.args.zero _ k.x-index k.all k.invariant (omega arith) ∙ sym (Z.begins-as g.T.PartialEq.eq c.args.zero c.args.n c.args.s.now c.if-s-n.false)
