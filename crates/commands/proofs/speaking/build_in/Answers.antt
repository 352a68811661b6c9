-- `commands::speaking::build_in` meets its contract: the parts that were lent come back in front of what lies past them.
-- Assumes nothing.
use Rattle.commands.proofs.Lent.{built-back}
use mathlib.Core.Path.{sym}
use lib.Seq.{length-take-le}
use borrow.Author.Rules.{rules}
use Rattle.commands.proofs.speaking.build_in.Goals as goal

pub slice_bounds-build-end-2 : goal.slice_bounds-build-end-2
slice_bounds-build-end-2 c = sym (length-take-le c.args.n c.args.words.now c.requires.0)

pub slice_bounds-build-end-4 : goal.slice_bounds-build-end-4
slice_bounds-build-end-4 c = sym (length-take-le c.args.m c.args.sets.now c.requires.1)

pub returns : goal.returns
returns c = let a = c.args in built-back _ a.n a.m a.image.now a.words.now a.sets.now _ _ c.build.ensures
