-- `states::find_or_add` meets its contract.
-- Assumes nothing.
use Rattle.states.proofs.Rows.{settled}
use mathlib.Core.Path.{refl}
use native.Mathlib.Omega.{arith}
use borrow.Author.Rules.{rules}
use Rattle.states.proofs.find_or_add.Goals as goal

pub returns-then-n-i : goal.returns-then-n-i
returns-then-n-i c = settled _ _ c.find-i.result _ c.find-i.ensures refl (omega arith)

pub returns-else-n-i : goal.returns-else-n-i
returns-else-n-i c = settled _ _ c.find-i.result _ c.find-i.ensures refl (omega arith)
