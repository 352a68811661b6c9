-- `change::is_entry` meets its contract: each test in turn.
-- Assumes nothing.
use native.Mathlib.Omega.{arith}
use borrow.Author.Rules.{rules}
use Rattle.change.proofs.Judgement.{entry_nameless, entry_silent, entry_long, entry_found}
use Rattle.change.proofs.is_entry.Goals as goal

pub returns-then-name-eq0 : goal.returns-then-name-eq0
returns-then-name-eq0 c = entry_nameless _ _ c.if-name-eq0.true

pub returns-then-phones-eq0 : goal.returns-then-phones-eq0
returns-then-phones-eq0 c = entry_silent _ _ c.if-name-eq0.false c.if-phones-eq0.true

pub returns-then-phones-gt-MAX_LISTED_PHONES : goal.returns-then-phones-gt-MAX_LISTED_PHONES
returns-then-phones-gt-MAX_LISTED_PHONES c = entry_long _ _ c.if-name-eq0.false c.if-phones-eq0.false (omega arith)

pub returns : goal.returns
returns c = entry_found _ _ c.if-name-eq0.false c.if-phones-eq0.false (omega arith) _ c.all_within.ensures
