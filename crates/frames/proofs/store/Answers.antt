-- `frames::store` meets its contract: past the end `set` changes nothing.
-- Assumes nothing.
use Rattle.std.proofs.Common.{sym, rules}
use lib.Seq.{set_out}
use Rattle.frames.proofs.store.Goals as goal

pub returns-else-at-out : goal.returns-else-at-out
returns-else-at-out c = sym (set_out _ _ _ c.if-at-out.false)
