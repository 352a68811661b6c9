-- `patterns::put_choice_reversed` meets its contract: the loop from the run's end on.
-- Assumes nothing.
use mathlib.Core.Path.{◌≡◌}
use native.Mathlib.Omega.{arith}
use Rattle.classes.specs.Masks.{classes_in}
use Rattle.side.proofs.Writing.{full}
use Rattle.patterns.proofs.Reversing as R
use Rattle.patterns.proofs.Backwards as B
use Rattle.patterns.proofs.put_choice_reversed.Goals as goal

pub loop-k-init : goal.loop-k-init
loop-k-init c = let i = c.into_iter-k-iterator.result in
    let n : i.count ≡ 0 = cc in
    let r : i.iter.iter.rest.now ≡ c.args.run.now = cc in
    (rw n (R.begin (classes_in c.args.masks.now) c.args.run.now c.requires.1 c.args.j c.args.pats.now c.args.at), B.begin _ _ _ r n)

pub letter_round-requires : goal.letter_round-requires
letter_round-requires c = let a = c.args in
    let l = c.loop-k in
    let e = c.in-Some.ensures.steps.0 in
    (c.requires.0, R.symbol_some (classes_in a.masks.now) a.run.now c.requires.1 a.j a.pats.now a.at c.requires.2 l.pats l.q l.k-iterator.count l.invariant.0 (omega (arith, B.more _ _ _ l.invariant.1 _ _ e)) _ (B.symbol _ _ _ l.invariant.1 _ _ e))

pub bounds-pats-at : goal.bounds-pats-at
bounds-pats-at c = let h = c.in-Some.ensures.steps in
    omega (arith, B.more _ _ _ c.loop-k.invariant.1 _ _ h.0, h.1, c.loop-k.invariant.0.wrote.len, c.requires.2)

pub rest_after-q-requires : goal.rest_after-q-requires
rest_after-q-requires c = let a = c.args in
    let l = c.loop-k in
    let e = c.in-Some.ensures.steps.0 in
    (c.requires.0, R.symbol_some (classes_in a.masks.now) a.run.now c.requires.1 a.j a.pats.now a.at c.requires.2 l.pats l.q l.k-iterator.count l.invariant.0 (omega (arith, B.more _ _ _ l.invariant.1 _ _ e)) _ (B.symbol _ _ _ l.invariant.1 _ _ e))

pub loop-k-preserved : goal.loop-k-preserved
loop-k-preserved c = let a = c.args in
    let l = c.loop-k in
    let h = c.in-Some.ensures.steps in
    rw (h.1, h.2) (
      R.next (classes_in a.masks.now) a.run.now c.requires.1 a.j a.pats.now a.at c.requires.2 l.pats l.q l.k-iterator.count l.invariant.0 (omega (arith, B.more _ _ _ l.invariant.1 _ _ h.0)) _ (B.symbol _ _ _ l.invariant.1 _ _ h.0) _ c.letter_round.ensures _ c.rest_after-q.ensures,
      B.next _ _ _ l.invariant.1 _ _ h.0,
    )

pub returns : goal.returns
returns c = full _ c.loop-k.invariant.0.wrote (omega (arith, B.counts _ _ _ c.loop-k.invariant.1, c.in-None.ensures.steps.0))
