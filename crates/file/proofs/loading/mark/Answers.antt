-- `file::loading::mark` meets its contract.
-- Assumes nothing.
use Prim.Native.Nat.{◌/◌}
use lib.ListN.{set}
use mathlib.Core.Path.{ap}
use borrow.Author.Rules.{rules}
use Rattle.file.proofs.loading.mark.Goals as goal

pub returns : goal.returns
returns c =
    record {
      was = c.has_bit.ensures;
      now = ap (set c.args.seen.now (c.args.n / 64)) c.with_bit.ensures;
    }
