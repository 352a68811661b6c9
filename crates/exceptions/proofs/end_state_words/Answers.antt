-- `exceptions::end_state_words` meets its contract: the state in which the name ends, where it has phones.
-- Assumes nothing.
use Rattle.exceptions.proofs.Looking.{end_asks, state_asks, packed, ends_absent, ends_here}
use borrow.Author.Rules.{rules}
use Rattle.exceptions.proofs.end_state_words.Goals as goal

pub end_state-q-requires : goal.end_state-q-requires
end_state-q-requires c = end_asks _ c.args.name.now c.requires.1 c.requires.2 _ c.start_of-n.ensures

pub locate-found-requires : goal.locate-found-requires
locate-found-requires c = (state_asks _ c.args.name.now c.requires.1 c.requires.2 _ c.start_of-n.ensures _ c.end_state-q.ensures, packed _ c.args.name.now c.requires.1 c.requires.2 _ c.start_of-n.ensures _ c.end_state-q.ensures)

pub returns-then-found-eq0 : goal.returns-then-found-eq0
returns-then-found-eq0 c = ends_absent _ c.args.name.now c.requires.1 c.requires.2 _ c.start_of-n.ensures _ c.end_state-q.ensures _ _ c.locate-found.ensures c.if-found-eq0.true

pub returns : goal.returns
returns c = ends_here _ c.args.name.now c.requires.1 c.requires.2 _ c.start_of-n.ensures _ c.end_state-q.ensures _ _ c.locate-found.ensures c.if-found-eq0.false
