-- The search in a chain: its numbers fall, and the rest of the chain gives what the whole does.
-- Assumes nothing.
use mathlib.Core.Path.{sym, subst}
use native.Mathlib.Omega.{arith}
use Rattle.tables.proofs.Siblings as S
use Rattle.count.proofs.find.Goals as goal

pub loop-k-init : goal.loop-k-init
loop-k-init c = S.begin _ _ _ _ _

pub bounds-key-k : goal.bounds-key-k
bounds-key-k c = omega (arith, c.loop-k.invariant.below, c.requires.1)

pub returns-then-key-k : goal.returns-then-key-k
returns-then-key-k c = S.hit _ _ _ _ _ c.requires.2 c.requires.0 _ c.loop-k.invariant c.loop-k-test.true c.if-key-k.true

pub bounds-next-k : goal.bounds-next-k
bounds-next-k c = omega (arith, c.loop-k.invariant.below, c.requires.0)

pub loop-k-smaller : goal.loop-k-smaller
loop-k-smaller c = omega (arith, c.from-k.ensures, c.requires.2 c.loop-k.k c.loop-k-test.true c.loop-k.invariant.below)

pub loop-k-preserved : goal.loop-k-preserved
loop-k-preserved c = subst (S.Seeking _ _ _ _ _) (sym c.from-k.ensures)
    (S.miss _ _ _ _ _ c.requires.2 c.requires.0 _ c.loop-k.invariant c.loop-k-test.true c.if-key-k.false)

pub returns : goal.returns
returns c = S.ended _ _ _ _ _ c.requires.2 c.requires.0 _ c.loop-k.invariant (omega arith)
