-- The loop that stores a list, the last element first.
-- Assumes nothing.
use mathlib.Core.Path.{◌≡◌, sym, ◌∙◌}
use native.Mathlib.Omega.{arith}
use Rattle.side.proofs.Writing as W
use Rattle.patterns.proofs.Symbols.{get_d_reverse}
use Rattle.patterns.proofs.Backwards as B
use Rattle.patterns.proofs.put_reversed.Goals as goal

pub loop-k-init : goal.loop-k-init
loop-k-init c = let i = c.into_iter-k-iterator.result in
    let n : i.count ≡ 0 = cc in
    let r : i.iter.iter.rest.now ≡ c.args.s.now = cc in
    (W.full _ (W.begin _ _ _) (sym n), B.begin _ _ _ r n)

pub bounds-pats-at : goal.bounds-pats-at
bounds-pats-at c = let h = c.in-Some.ensures.steps in
    omega (arith, B.more _ _ _ c.loop-k.invariant.1 _ _ h.0, h.1)

pub loop-k-preserved : goal.loop-k-preserved
loop-k-preserved c = let h = c.in-Some.ensures.steps in
    let b = c.loop-k.invariant.1 in
    let m = B.more _ _ _ b _ _ h.0 in
    rw (h.1, h.2)
    (W.next _ _ _ _ _ _ c.loop-k.invariant.0 (omega (arith, m)) (B.symbol _ _ _ b _ _ h.0 ∙ sym (get_d_reverse c.args.s.now c.loop-k.k-iterator.count (omega (arith, m)))), B.next _ _ _ b _ _ h.0)

pub returns : goal.returns
returns c = W.full _ c.loop-k.invariant.0 (omega (arith, B.counts _ _ _ c.loop-k.invariant.1, c.in-None.ensures.steps.0))
