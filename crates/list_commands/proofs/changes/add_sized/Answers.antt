-- `list_commands::changes::add_sized` meets its contract: as many bytes as the name length says, or more.
-- Assumes nothing.
use Prim.Native.Nat.{ℕ, ◌+◌}
use mathlib.Core.Path.{ap}
use lib.Dec.{leb}
use lib.ListN.{length}
use Rattle.list_commands.proofs.Frames.{add_short}
use Rattle.list_commands.proofs.changes.add_sized.Goals as goal

pub returns-then-f-lt2 : goal.returns-then-f-lt2
returns-then-f-lt2 c = add_short c.args.f.now c.if-f-lt2.true

pub returns : goal.returns
returns c = ap (λ (n : ℕ). leb (2 + n) (length c.args.f.now)) c.from.ensures
