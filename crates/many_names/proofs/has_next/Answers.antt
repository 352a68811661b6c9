-- `many_names::has_next` meets its contract.
-- Assumes nothing.
use native.Mathlib.Omega.{arith}
use Rattle.many_names.proofs.Names.{has_none, has_broken, has_one}
use Rattle.many_names.proofs.has_next.Goals as goal

pub returns-then-limit-count : goal.returns-then-limit-count
returns-then-limit-count c = let a = c.args in
    has_none a.names.now a.at a.count a.limit (omega arith)

pub returns-then-names-at : goal.returns-then-names-at
returns-then-names-at c = let a = c.args in
    has_broken a.names.now a.at a.count a.limit (omega arith)

pub returns-then-left-from : goal.returns-then-left-from
returns-then-left-from c = let a = c.args in
    has_broken a.names.now a.at a.count a.limit (omega (arith, c.from.ensures))

pub returns : goal.returns
returns c = let a = c.args in
    has_one a.names.now a.at a.count a.limit (omega arith) (omega (arith, c.from.ensures))
