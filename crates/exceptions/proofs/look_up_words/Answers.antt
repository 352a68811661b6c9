-- `look_up_words` meets its contract: the phones of the state in which the name ends.
-- Assumes nothing.
use Rattle.exceptions.proofs.Looking.{end_asks, state_asks, packed, unlisted, no_room, given}
use borrow.Author.Rules.{rules}
use Rattle.exceptions.proofs.look_up_words.Goals as goal

pub end_state-q-requires : goal.end_state-q-requires
end_state-q-requires c = end_asks _ c.args.name.now c.requires.1 c.requires.2 _ c.start_of-n.ensures

pub locate-found-requires : goal.locate-found-requires
locate-found-requires c = (state_asks _ c.args.name.now c.requires.1 c.requires.2 _ c.start_of-n.ensures _ c.end_state-q.ensures, packed _ c.args.name.now c.requires.1 c.requires.2 _ c.start_of-n.ensures _ c.end_state-q.ensures)

pub returns-then-count-eq0 : goal.returns-then-count-eq0
returns-then-count-eq0 c = unlisted _ c.args.name.now c.requires.1 c.requires.2 _ c.start_of-n.ensures _ c.end_state-q.ensures _ _ c.locate-found.ensures _ c.if-count-eq0.true

pub returns-then-phones-count : goal.returns-then-phones-count
returns-then-phones-count c = no_room _ c.args.name.now c.requires.1 c.requires.2 _ c.start_of-n.ensures _ c.end_state-q.ensures _ _ c.locate-found.ensures _ c.if-phones-count.true

pub returns : goal.returns
returns c = given _ c.args.name.now c.requires.1 c.requires.2 _ c.start_of-n.ensures _ c.end_state-q.ensures _ _ c.locate-found.ensures _ c.if-count-eq0.false c.if-phones-count.false _ c.write.ensures
