-- `build::put_counts` meets its contract.
-- Assumes nothing.
use native.Mathlib.Omega.{arith}
use lib.ListN.{length-set}
use borrow.Author.Rules.{rules}
use Rattle.build.proofs.Joining.{head_set}
use Rattle.build.proofs.put_counts.Goals as goal

pub bounds-words-1 : goal.bounds-words-1
bounds-words-1 c = simp length-set (omega arith)

pub bounds-words-2 : goal.bounds-words-2
bounds-words-2 c = simp length-set (omega arith)

pub returns : goal.returns
returns c = head_set c.args.words.now _ _ _ _ (omega arith)
