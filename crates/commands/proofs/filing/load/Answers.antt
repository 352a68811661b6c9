-- `commands::filing::load` meets its contract: a file of 32,768 bytes or fewer is read, a longer one refused.
-- Assumes nothing.
use Rattle.commands.proofs.Lent.{loaded_long, loaded_file}
use borrow.Author.Rules.{rules}
use Rattle.commands.proofs.filing.load.Goals as goal

pub returns-then-file-gt-MAX_INPUT : goal.returns-then-file-gt-MAX_INPUT
returns-then-file-gt-MAX_INPUT c = loaded_long c.args.file.now c.args.image.now c.if-file-gt-MAX_INPUT.true

pub returns : goal.returns
returns c = loaded_file c.args.file.now c.args.image.now _ c.if-file-gt-MAX_INPUT.false c.read_file.ensures
