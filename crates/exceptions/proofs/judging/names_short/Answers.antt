-- `exceptions::judging::names_short` meets its contract.
-- Assumes nothing.
use native.Mathlib.Omega.{arith}
use Rattle.exceptions.proofs.Judged.{none_short, short_found}
use borrow.Author.Rules.{rules}
use Rattle.exceptions.proofs.judging.names_short.Goals as goal

pub returns-then-n-eq0 : goal.returns-then-n-eq0
returns-then-n-eq0 c = none_short _ _ c.requires.sound (omega arith)

pub returns : goal.returns
returns c = short_found _ _ _ c.depth_all.ensures (omega arith)
