-- `classes::ordinals::rest_of` meets its contract: what is left after i symbols is divided by the choices of the others.
-- Assumes nothing.
use mathlib.Core.Path.{refl, sym, ◌∙◌}
use native.Mathlib.Omega.{arith}
use Rattle.classes.specs.Masks.{classes_in}
use Rattle.classes.proofs.Ordinal.{size_at}
use Rattle.classes.proofs.Scan.{rest_next, rest_end}
use Rattle.classes.proofs.ordinals.rest_of.Goals as goal

pub loop-symbol-init : goal.loop-symbol-init
loop-symbol-init c = refl

pub rest_after-q-requires : goal.rest_after-q-requires
rest_after-q-requires c = (c.requires.0, size_at (classes_in c.args.masks.now) c.args.run.now c.loop-symbol.symbol-index c.requires.1 (omega arith))

pub loop-symbol-preserved : goal.loop-symbol-preserved
loop-symbol-preserved c = c.loop-symbol.invariant ∙ rest_next (classes_in c.args.masks.now) c.args.run.now c.loop-symbol.q c.loop-symbol.symbol-index (omega arith) _ c.rest_after-q.ensures

pub returns : goal.returns
returns c = sym (c.loop-symbol.invariant ∙ rest_end (classes_in c.args.masks.now) c.args.run.now c.loop-symbol.q c.loop-symbol.symbol-index (omega arith))
