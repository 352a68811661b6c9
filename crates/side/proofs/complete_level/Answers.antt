-- `side::complete_level` meets its contract: a loop over the patterns completes the states of one length.
-- Assumes nothing.
use Rattle.side.proofs.Filling as F
use native.Mathlib.Omega.{arith}
use Rattle.side.proofs.complete_level.Goals as goal
use Rattle.side.proofs.complete_level.Goals.{then-d-len, else-d-len}

pub loop-i-init : goal.loop-i-init
loop-i-init c = let pre = c.requires in
    F.rise-begin _ _ _ _ _ _ _ pre.0 pre.1 pre.2 pre.3 pre.4 pre.6

pub overflow_add-e : goal.overflow_add-e
overflow_add-e c = let pre = c.requires in
    omega (arith, pre.0.few)

pub complete_one-top-requires : goal.complete_one-top-requires
complete_one-top-requires c = let pre = c.requires in
    F.rise-asks _ _ _ _ _ _ _ pre.0 pre.1 pre.2 pre.3 pre.4 _ _ _ _ c.loop-i.invariant (omega arith) (omega (arith, c.from-len.ensures))

pub loop-i-preserved : goal.loop-i-preserved
loop-i-preserved c = let pre = c.requires in
    elim c.if-d-len.branch [
      | then-d-len a ↦
          F.rise-same a.rows-is a.sets-is a.top-is
          (F.rise-next _ _ _ _ _ _ _ pre.0 pre.1 pre.2 pre.3 pre.4 _ _ _ _ c.loop-i.invariant (omega arith) (omega (arith, c.from-len.ensures, a.if-d-len.true)) _ _ _ a.complete_one-top.ensures)
      | else-d-len a ↦
          F.rise-same a.rows-is a.sets-is a.top-is
          (F.rise-skip _ _ _ _ _ _ _ pre.0 pre.1 pre.2 pre.3 pre.4 _ _ _ _ c.loop-i.invariant (omega arith) (omega (arith, c.from-len.ensures, a.if-d-len.false)))
    ]

pub returns : goal.returns
returns c = let pre = c.requires in
    F.rise-end _ _ _ _ _ _ _ pre.0 pre.1 pre.2 pre.3 pre.4 _ _ _ _ c.loop-i.invariant (omega arith)
