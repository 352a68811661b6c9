-- `states::put_cell` meets its contract.
-- Assumes nothing.
use Rattle.states.proofs.Rows.{none_put, one_put}
use native.Mathlib.Omega.{arith}
use borrow.Author.Rules.{rules}
use Rattle.states.proofs.put_cell.Goals as goal

pub returns-then-r-eq0 : goal.returns-then-r-eq0
returns-then-r-eq0 c = none_put _ _ _ _ c.if-r-eq0.true

pub returns : goal.returns
returns c = one_put _ _ _ _ _ c.if-r-eq0.false (omega arith) c.cell.ensures
