-- `history::letters_at` meets its contract.
-- Assumes nothing.
use Prim.Native.Nat.{ℕ, ◌+◌}
use mathlib.Core.Path.{ap}
use Rattle.history.proofs.Runs.{part_taken}
use Rattle.history.proofs.letters_at.Goals as goal

pub returns : goal.returns
returns c = part_taken c.args.at c.args.n _ _ c.args.letters.now c.min-start.ensures (ap (λ (k : ℕ). c.min-start.result + k) c.min.ensures)
