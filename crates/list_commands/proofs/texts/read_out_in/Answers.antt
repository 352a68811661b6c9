-- `list_commands::texts::read_out_in` meets its contract: the part that was lent comes back in front of what lies past it.
-- Assumes nothing.
use mathlib.Core.Path.{sym, ap}
use borrow.Author.Rules.{rules}
use lib.Seq.{length-take-le}
use Rattle.list_commands.specs.ListCommands.{read_out_effect, read_out_in}
use Rattle.list_commands.proofs.texts.read_out_in.Goals as goal

pub slice_bounds-read_out-end-2 : goal.slice_bounds-read_out-end-2
slice_bounds-read_out-end-2 c = sym (length-take-le c.args.n c.args.text.now c.requires)

pub returns : goal.returns
unfolding read_out_in
returns c = let a = c.args in ap (read_out_effect a.n a.text.now) c.read_out.ensures
