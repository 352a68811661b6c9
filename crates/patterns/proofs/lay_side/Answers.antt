-- The loop that lays the patterns of a side.
-- Assumes nothing.
use Prim.Native.Nat.{◌<◌}
use native.Mathlib.Omega.{arith}
use Rattle.image.specs.Image.{total_of}
use Rattle.image.proofs.Literals.{total_is, literals_few}
use Rattle.patterns.proofs.Laying.{begin, fits, lens_room, next, finished, laid_at}
use Rattle.patterns.proofs.Symbols.{long}
use Rattle.patterns.proofs.lay_side.Goals as goal

pub loop-i-init : goal.loop-i-init
loop-i-init c = begin _ _ c.args.rules.sound _ _ c.requires.1

pub overflow_mul-i : goal.overflow_mul-i
overflow_mul-i c = omega (arith, c.requires.0, total_is _ c.args.rules.sound, literals_few _ c.args.rules.sound)

pub put_pattern-len-requires : goal.put_pattern-len-requires
put_pattern-len-requires c = let h : c.loop-i.i < total_of c.args.rules.bytes.now = omega (arith, c.requires.0, c.loop-i-test.true) in
    (h, fits _ _ c.args.rules.sound _ _ c.requires.1 _ _ _ c.loop-i.invariant h)

pub overflow_cast-lens : goal.overflow_cast-lens
overflow_cast-lens c = let h : c.loop-i.i < total_of c.args.rules.bytes.now = omega (arith, c.requires.0, c.loop-i-test.true) in
    record { fits = omega (arith, c.put_pattern-len.ensures.0, long _ c.args.rules.sound _ h c.args.right) }

pub bounds-lens-i : goal.bounds-lens-i
bounds-lens-i c = let h : c.loop-i.i < total_of c.args.rules.bytes.now = omega (arith, c.requires.0, c.loop-i-test.true) in
    lens_room _ _ c.args.rules.sound _ _ c.requires.1 _ _ _ c.loop-i.invariant h

pub loop-i-preserved : goal.loop-i-preserved
loop-i-preserved c = let h : c.loop-i.i < total_of c.args.rules.bytes.now = omega (arith, c.requires.0, c.loop-i-test.true) in
    let e = c.put_pattern-len.ensures in
    next _ _ c.args.rules.sound _ _ c.requires.1 _ _ _ c.loop-i.invariant h _ e.0 _ e.1

pub returns : goal.returns
returns c = finished _ _ c.args.rules.sound _ _ c.requires.1 _ _ (laid_at _ (omega (arith, c.requires.0, c.loop-i.invariant.reached)) c.loop-i.invariant)
