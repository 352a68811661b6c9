-- `change_history::apply` meets its contract.
-- Assumes nothing.
use Rattle.change_history.proofs.Turns.{change_add, change_remove}
use borrow.Author.Rules.{rules}
use Rattle.change_history.proofs.apply.Goals as goal

pub returns-then-kind-eq0 : goal.returns-then-kind-eq0
returns-then-kind-eq0 c = change_add _ _ _ _ _ _ c.if-kind-eq0.true c.add_name.ensures

pub returns : goal.returns
returns c = change_remove _ _ _ _ _ _ c.if-kind-eq0.false c.remove_name.ensures
