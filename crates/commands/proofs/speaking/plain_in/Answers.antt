-- `commands::speaking::plain_in` meets its contract: the parts that were lent come back in front of what lies past them.
-- Assumes nothing.
use Rattle.commands.proofs.Lent.{said-back}
use mathlib.Core.Path.{sym}
use lib.Seq.{length-take-le}
use borrow.Author.Rules.{rules}
use Rattle.commands.proofs.speaking.plain_in.Goals as goal

pub slice_bounds-read_name-end-2 : goal.slice_bounds-read_name-end-2
slice_bounds-read_name-end-2 c = sym (length-take-le c.args.n c.args.phones.now c.requires.0)

pub slice_bounds-read_name-end-4 : goal.slice_bounds-read_name-end-4
slice_bounds-read_name-end-4 c = sym (length-take-le c.args.m c.args.numbers.now c.requires.1)

pub returns : goal.returns
returns c = let a = c.args in said-back _ a.n a.m a.image.now a.list.now a.name.now a.phones.now a.numbers.now _ _ c.read_name.ensures
