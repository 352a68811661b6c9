-- `image::table::put_run` meets its contract: entries are laid one after the other.
-- Assumes nothing.
use Prim.Native.Nat.{◌+◌, ◌*◌}
use mathlib.Core.Path.{◌≡◌, sym, ap, ◌∙◌}
use lib.ListN.{length-set}
use Rattle.image.specs.Image.{table_start, origin_size}
use Rattle.image.proofs.Settling.{laid_run, run_none, run_more, run_done}
use native.Mathlib.Omega.{arith}
use borrow.Author.Rules.{rules}
use Rattle.image.proofs.table.put_run.Goals as goal

pub loop-j-init : goal.loop-j-init
loop-j-init c = (sym (run_none c.args.image.now (table_start + origin_size * c.args.p) c.args.q), search rules)

pub bounds-image-at : goal.bounds-image-at
bounds-image-at c = omega (arith, c.requires.0, c.requires.1.0, c.loop-j.invariant.1)

pub bounds-image-at-in-loop-j : goal.bounds-image-at-in-loop-j
bounds-image-at-in-loop-j c = simp length-set (omega (arith, c.requires.0, c.requires.1.0, c.loop-j.invariant.1))

pub bounds-image-at-in-loop-j-2 : goal.bounds-image-at-in-loop-j-2
bounds-image-at-in-loop-j-2 c = simp length-set (omega (arith, c.requires.0, c.requires.1.0, c.loop-j.invariant.1))

pub bounds-image-at-in-loop-j-3 : goal.bounds-image-at-in-loop-j-3
bounds-image-at-in-loop-j-3 c = simp length-set (omega (arith, c.requires.0, c.requires.1.0, c.loop-j.invariant.1))

pub loop-j-preserved : goal.loop-j-preserved
loop-j-preserved c = (run_more c.args.image.now (table_start + origin_size * c.args.p) c.args.q (omega (arith, c.requires.0, c.requires.1.0)) c.loop-j.j (table_start + origin_size * c.args.p + origin_size * c.loop-j.j) c.loop-j.image (omega arith) (omega (arith, c.requires.0, c.requires.1.0)) c.loop-j.invariant.0, simp length-set c.loop-j.invariant.1)

pub shape_of-image : goal.shape_of-image
shape_of-image c = c.loop-j.invariant.1

pub returns : goal.returns
returns c = run_done c.args.image.now (table_start + origin_size * c.args.p) c.args.q (omega (arith, c.requires.0, c.requires.1.0)) c.args.n _ (c.loop-j.invariant.0 ∙ ap (laid_run c.args.image.now (table_start + origin_size * c.args.p) c.args.q) (let e : c.loop-j.j ≡ c.args.n = omega arith in e))
