-- `fitting::first_fit` meets its contract: the rules from a place on decide.
-- Assumes nothing.
use mathlib.Core.Path.{sym, ◌∙◌}
use native.Mathlib.Omega.{arith}
use Rattle.fitting.proofs.Search.{search_begin, search_found, search_next, search_none}
use Rattle.fitting.proofs.first_fit.Goals as goal

pub loop-place-init : goal.loop-place-init
loop-place-init c = search_begin c.args.image.now c.args.frame.now c.args.i

pub fits_by-requires : goal.fits_by-requires
fits_by-requires c = (c.masks-masks.ensures, (omega (arith, c.loop-place-test.true, c.requires.1.0), c.requires.1.1))

pub returns-then-fits_by : goal.returns-then-fits_by
returns-then-fits_by c = let l = c.loop-place in search_found c.args.image.now c.args.frame.now c.args.i l.place (omega (arith, c.loop-place-test.true, c.requires.1.0)) l.invariant (sym c.fits_by.ensures ∙ c.if-fits_by.true) _ c.count_fits-fitting.ensures

pub loop-place-preserved : goal.loop-place-preserved
loop-place-preserved c = let l = c.loop-place in
    search_next c.args.image.now c.args.frame.now c.args.i l.place (omega (arith, c.loop-place-test.true, c.requires.1.0)) l.invariant (sym c.fits_by.ensures ∙ c.if-fits_by.false)

pub returns : goal.returns
returns c = let l = c.loop-place in search_none c.args.image.now c.args.frame.now c.args.i l.place l.invariant (omega (arith, c.loop-place-test.false, c.requires.1.0))
