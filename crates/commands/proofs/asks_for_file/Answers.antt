-- `commands::asks_for_file` meets its contract: a frame of 1 byte, by its kind.
-- Assumes nothing.
use lib.ListN.{length}
use mathlib.Core.Path.{sym}
use borrow.Author.Tests.{eq-eqb, ne_eqb}
use Rattle.commands.specs.Monitor.{reads_file}
use Rattle.commands.proofs.asks_for_file.Goals as goal

pub returns-then-f-eq1 : goal.returns-then-f-eq1
unfolding reads_file
returns-then-f-eq1 c = sym (rw (eq-eqb (length c.args.f.now) 1 c.if-f-eq1.true))

pub returns-else-f-eq1 : goal.returns-else-f-eq1
unfolding reads_file
returns-else-f-eq1 c = sym (rw (ne_eqb (length c.args.f.now) 1 c.if-f-eq1.false))
