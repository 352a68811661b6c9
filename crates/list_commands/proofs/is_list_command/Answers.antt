-- `list_commands::is_list_command` meets its contract: the first byte decides.
-- Assumes nothing.
use native.Mathlib.Omega.{arith}
use mathlib.Core.Path.{◌∙◌}
use borrow.Author.Tests.{lt-leb}
use Rattle.list_commands.proofs.Frames.{no_kind, low_kind, kind_is}
use Rattle.list_commands.proofs.is_list_command.Goals as goal

pub returns-in_default : goal.returns-in_default
returns-in_default c = no_kind c.args.f.now (omega arith)

pub returns-then-kind-ge32 : goal.returns-then-kind-ge32
returns-then-kind-ge32 c = kind_is c.args.f.now c.if-kind-ge32.true

pub returns-else-kind-ge32 : goal.returns-else-kind-ge32
returns-else-kind-ge32 c = lt-leb 32 _ c.if-kind-ge32.false ∙ low_kind c.args.f.now c.if-kind-ge32.false
