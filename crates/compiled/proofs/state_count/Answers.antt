-- `compiled::state_count` meets its contract.
-- Assumes nothing.
use mathlib.Core.Path.{sym}
use native.Mathlib.Omega.{arith}
use lib.ListN.{get_or-eq_default}
use Rattle.compiled.proofs.state_count.Goals as goal

pub returns-then-words-at : goal.returns-then-words-at
returns-then-words-at c = sym (get_or-eq_default c.args.words.now 0 {n = c.args.at} (omega arith))

pub returns : goal.returns
returns c = c.from.ensures
