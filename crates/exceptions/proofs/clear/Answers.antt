-- `exceptions::clear` meets its contract.
-- Assumes nothing.
use Rattle.exceptions.proofs.Empty.{short_refused, emptied_is}
use lib.ListN.{length-set}
use native.Mathlib.Omega.{arith}
use borrow.Author.Rules.{rules}
use Rattle.exceptions.proofs.clear.Goals as goal

pub returns-then-list-lt-SIZE : goal.returns-then-list-lt-SIZE
returns-then-list-lt-SIZE c = short_refused _ (omega arith)

pub bounds-list-1 : goal.bounds-list-1
bounds-list-1 c = simp length-set (omega arith)

pub bounds-list-4199 : goal.bounds-list-4199
bounds-list-4199 c = simp length-set (omega arith)

pub returns : goal.returns
returns c = emptied_is _ (omega arith)
