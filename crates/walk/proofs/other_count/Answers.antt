-- `walk::other_count` meets its contract.
-- Assumes nothing.
use mathlib.Core.Path.{refl}
use native.Mathlib.Omega.{arith}
use Rattle.walk.proofs.Walked.{count_differs}
use Rattle.walk.proofs.other_count.Goals as goal

pub returns-then-not-long : goal.returns-then-not-long
returns-then-not-long c = rw (c.if-not-long.true)

pub bounds-words-0 : goal.bounds-words-0
bounds-words-0 c = let h = c.requires (c.if-not-long.false) in omega (arith, h)

pub bounds-words-1 : goal.bounds-words-1
bounds-words-1 c = let h = c.requires (c.if-not-long.false) in omega (arith, h)

pub returns : goal.returns
returns c = count_differs c.args.words.now _ _ _ _ c.args.long (c.if-not-long.false) c.from-high.ensures c.from-low.ensures refl
