-- `fitting::count_fits` meets its contract: those counted and those from p on are all.
-- Assumes nothing.
use Prim.Native.Nat.{◌<◌}
use mathlib.Core.Path.{sym, ◌∙◌}
use native.Mathlib.Omega.{arith}
use Rattle.image.specs.Image.{count_of}
use Rattle.fitting.proofs.Search.{count_next, count_end}
use Rattle.fitting.proofs.count_fits.Goals as goal
use Rattle.fitting.proofs.count_fits.Goals.{then-fits_by, else-fits_by}

pub loop-p-init : goal.loop-p-init
loop-p-init c = (omega arith, omega arith)

pub fits_by-requires : goal.fits_by-requires
fits_by-requires c = (c.requires.0, (omega (arith, c.loop-p-test.true, c.requires.1.0), c.requires.1.1.0))

pub loop-p-preserved : goal.loop-p-preserved
loop-p-preserved c = let l = c.loop-p in
    let h : l.p < count_of c.args.rules.bytes.now = omega (arith, c.loop-p-test.true, c.requires.1.0) in
    elim c.if-fits_by.branch [
      | then-fits_by b ↦
          rw b.fitting-is
          (omega (arith, l.invariant.0), omega (arith, count_next c.args.rules.bytes.now c.args.frame.now c.args.i l.p h _ (sym c.fits_by.ensures ∙ b.if-fits_by.true), l.invariant.1))
      | else-fits_by b ↦
          rw b.fitting-is
          (omega (arith, l.invariant.0), omega (arith, count_next c.args.rules.bytes.now c.args.frame.now c.args.i l.p h _ (sym c.fits_by.ensures ∙ b.if-fits_by.false), l.invariant.1))
    ]

pub returns : goal.returns
returns c = omega (arith, c.loop-p.invariant.1, count_end c.args.rules.bytes.now c.args.frame.now c.args.i c.loop-p.p (omega (arith, c.loop-p-test.false, c.requires.1.0)))
