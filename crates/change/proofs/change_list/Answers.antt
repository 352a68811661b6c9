-- `change::change_list` meets its contract: the words of a lent list are changed, the rest kept.
-- Assumes nothing.
use mathlib.Core.Path.{sym}
use borrow.Author.Rules.{rules}
use Rattle.exceptions.proofs.Sizes.{size_is}
use Rattle.change.proofs.Lent.{list_room, words_long, words_ask, limited, not_limited}
use Rattle.change.proofs.change_list.Goals as goal

pub slice_bounds-relist-end : goal.slice_bounds-relist-end
slice_bounds-relist-end c = list_room _ _ _ 35886 (sym size_is) c.requires

pub slice_bounds-relist-end-2 : goal.slice_bounds-relist-end-2
slice_bounds-relist-end-2 c = sym (words_long _ _ _ 35886 (sym size_is) c.requires)

pub relist-requires : goal.relist-requires
relist-requires c = words_ask _ _ _ 35886 (sym size_is) c.requires

pub returns-then-relist : goal.returns-then-relist
returns-then-relist c = limited _ _ _ 35886 (sym size_is) c.requires _ c.relist.auto.words _ c.relist.ensures c.if-relist.true

pub returns : goal.returns
returns c = not_limited _ _ _ 35886 (sym size_is) c.requires _ c.relist.auto.words _ c.relist.ensures c.if-relist.false
