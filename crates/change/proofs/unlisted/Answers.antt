-- `change::unlisted` meets its contract: the state in which the name ends has no phones.
-- Assumes nothing.
use borrow.Author.Rules.{rules}
use Rattle.change.proofs.Listed.{end_asks, state_asks, unlisted_found}
use Rattle.change.proofs.unlisted.Goals as goal

pub end_state-q-requires : goal.end_state-q-requires
end_state-q-requires c = end_asks _ _ c.requires _ c.start_of-n.ensures

pub at-requires : goal.at-requires
at-requires c = state_asks _ _ c.requires _ c.start_of-n.ensures _ c.end_state-q.ensures

pub returns : goal.returns
returns c = unlisted_found _ _ c.requires _ c.start_of-n.ensures _ c.end_state-q.ensures _ c.at.ensures
