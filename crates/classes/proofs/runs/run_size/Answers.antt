-- `classes::runs::run_size` meets its contract. The loop's invariant: what is counted, times the choices of the rest, is the whole, as far as it is told.
-- Assumes nothing.
use mathlib.Core.Path.{refl, sym, ◌∙◌}
use native.Mathlib.Omega.{arith}
use Rattle.classes.specs.Masks.{classes_in}
use Rattle.classes.proofs.Scan.{count_next, count_end}
use Rattle.classes.proofs.runs.run_size.Goals as goal

pub loop-symbol-init : goal.loop-symbol-init
loop-symbol-init c = (omega arith, refl)

pub grown-n-requires : goal.grown-n-requires
grown-n-requires c = (c.requires.0, c.loop-symbol.invariant.0)

pub loop-symbol-preserved : goal.loop-symbol-preserved
loop-symbol-preserved c = (c.grown-n.ensures.1, c.loop-symbol.invariant.1 ∙ count_next (classes_in c.args.masks.now) c.args.run.now c.loop-symbol.n c.loop-symbol.symbol-index (omega arith) _ _ refl c.grown-n.ensures.0)

pub returns : goal.returns
returns c = (sym (c.loop-symbol.invariant.1 ∙ count_end (classes_in c.args.masks.now) c.args.run.now c.loop-symbol.n c.loop-symbol.symbol-index (omega arith) c.loop-symbol.invariant.0), c.loop-symbol.invariant.0)
