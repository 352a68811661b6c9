-- `exceptions::judging::names_listed` meets its contract.
-- Assumes nothing.
use Rattle.exceptions.proofs.Judged.{phones_fail, count_fails, short_fails, names_decided, depth_ask}
use Rattle.minimality.proofs.Scan.{fails, holds}
use borrow.Author.Rules.{rules}
use Rattle.exceptions.proofs.judging.names_listed.Goals as goal

pub returns-then-not-rows_packed : goal.returns-then-not-rows_packed
returns-then-not-rows_packed c = phones_fail _ _ _ c.requires (fails _ _ c.rows_packed.ensures c.if-not-rows_packed.true-raw)

pub returns-then-not-names_few : goal.returns-then-not-names_few
returns-then-not-names_few c = count_fails _ _ _ c.requires (fails _ _ c.names_few.ensures c.if-not-names_few.true-raw)

pub names_short-requires : goal.names_short-requires
names_short-requires c = depth_ask _ _ _ c.requires _ c.names_few.auto.counts

pub returns-then-not-names_short : goal.returns-then-not-names_short
returns-then-not-names_short c = short_fails _ _ _ c.requires (fails _ _ c.names_short.ensures c.if-not-names_short.true-raw)

pub returns : goal.returns
returns c = names_decided _ _ _ c.requires _ (holds _ _ c.rows_packed.ensures c.if-not-rows_packed.false-raw) (holds _ _ c.names_few.ensures c.if-not-names_few.false-raw) (holds _ _ c.names_short.ensures c.if-not-names_short.false-raw) c.names_lettered.ensures
