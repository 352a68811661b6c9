-- `states::put` meets its contract: the path has a place for each letter, and one more.
-- Assumes nothing.
use mathlib.Core.Path.{◌≡◌}
use native.Mathlib.Omega.{arith}
use lib.ListN.{length}
use borrow.Author.Rules.{rules}
use Rattle.states.proofs.put.Goals as goal

pub put_along-requires : goal.put_along-requires
put_along-requires c = let l : length c.follow.new.path ≡ 65 = search rules in let f = c.requires.few in (c.requires, c.follow.ensures, omega arith)
