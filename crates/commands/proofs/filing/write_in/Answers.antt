-- `commands::filing::write_in` meets its contract: the part that was lent comes back in front of what lies past it.
-- Assumes nothing.
use Rattle.commands.proofs.Lent.{filed-back}
use mathlib.Core.Path.{sym}
use lib.Seq.{length-take-le}
use borrow.Author.Rules.{rules}
use Rattle.commands.proofs.filing.write_in.Goals as goal

pub slice_bounds-write_file-end-2 : goal.slice_bounds-write_file-end-2
slice_bounds-write_file-end-2 c = sym (length-take-le c.args.n c.args.out.now c.requires)

pub returns : goal.returns
returns c = let a = c.args in filed-back _ a.n a.image.now a.out.now _ c.write_file.ensures
