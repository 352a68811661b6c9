-- `command_parts::fields::add_sized` meets its contract: as long as the four lengths say.
-- Assumes nothing.
use mathlib.Core.Path.{ap}
use lib.Dec.{eqb}
use borrow.Author.Tests.{lt-leb, le-leb}
use lib.ListN.{length}
use Rattle.file_format.specs.Layout.{front_size}
use borrow.Author.Rules.{rules}
use Rattle.command_parts.proofs.fields.add_sized.Goals as goal

pub returns-then-f-lt-FRONT : goal.returns-then-f-lt-FRONT
returns-then-f-lt-FRONT c = rw (lt-leb front_size (length c.args.f.now) c.if-f-lt-FRONT.true)

pub returns : goal.returns
returns c = let f = c.args.f.now in
    rw (le-leb front_size (length f) c.if-f-lt-FRONT.false) (ap (eqb (length f)) c.body_size.ensures)
