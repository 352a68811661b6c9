-- `change::names_fit` meets its contract: a name that is removed or listed makes them no more, any other one more.
-- Assumes nothing.
use borrow.Author.Rules.{rules}
use Rattle.minimality.proofs.Scan.{fails, holds}
use Rattle.change.proofs.NameCounts.{removed_fits, listed_fits, more_fits}
use Rattle.change.proofs.Listed.{groups_none, groups_some}
use Rattle.change.proofs.names_fit.Goals as goal

pub returns-then-phones-eq0 : goal.returns-then-phones-eq0
returns-then-phones-eq0 c = removed_fits _ _ _ c.requires.list c.requires.letters c.requires.few (groups_none _ c.if-phones-eq0.true)

pub returns-then-not-unlisted : goal.returns-then-not-unlisted
returns-then-not-unlisted c = listed_fits _ _ _ c.requires.list c.requires.letters c.requires.few (fails _ _ c.unlisted.ensures c.if-not-unlisted.true-raw)

pub returns : goal.returns
returns c = more_fits _ _ _ c.requires.list c.requires.letters c.requires.few (holds _ _ c.unlisted.ensures c.if-not-unlisted.false-raw) (groups_some _ c.if-phones-eq0.false) _ c.count.ensures
