-- `fitting::target_len_at` meets its contract: a rule of a ruleset has a target.
-- Assumes nothing.
use mathlib.Core.Path.{ap}
use native.Mathlib.Omega.{arith}
use lib.ListN.{length}
use Rattle.image.proofs.Entries.{entry_shaped}
use Rattle.fitting.proofs.target_len_at.Goals as goal

pub returns : goal.returns
returns c = let s = entry_shaped _ c.requires.0 _ c.requires.1 in let l = ap length c.target_at-target.ensures in (l, (omega (arith, l, s.target-least), omega (arith, l, s.target-most)))
