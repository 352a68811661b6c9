-- `write_own` meets its contract: nothing where no name ends, measured where there is no room.
-- Assumes nothing.
use Rattle.readout.proofs.Entries.{own_locates, own_nothing, own_measured, own_writes}
use Rattle.readout.proofs.writing.write_own.Goals as goal

pub locate-found-requires : goal.locate-found-requires
locate-found-requires c = own_locates _ _ _ _ _ _ c.requires

pub returns-then-count-eq0 : goal.returns-then-count-eq0
returns-then-count-eq0 c = own_nothing _ _ _ _ _ _ c.requires _ _ c.locate-found.ensures c.if-count-eq0.true _

pub returns-then-out-end : goal.returns-then-out-end
returns-then-out-end c = own_measured _ _ _ _ _ _ c.requires _ _ c.locate-found.ensures c.if-count-eq0.false _ c.if-out-end.true

pub returns : goal.returns
returns c = own_writes _ _ _ _ _ _ c.requires _ _ c.locate-found.ensures c.if-count-eq0.false _ _ _ c.write_heading.ensures c.write.ensures
