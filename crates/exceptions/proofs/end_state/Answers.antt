-- `exceptions::end_state` meets its contract.
-- Assumes nothing.
use Rattle.exceptions.proofs.Names.{sound_letters}
use mathlib.Core.Path.{sym}
use native.Mathlib.Omega.{arith}
use lib.Seq.{length-take-le}
use Rattle.exceptions.proofs.Sizes.{size_is}
use Rattle.exceptions.proofs.Looking.{list_words, says_none, ends_list}
use Rattle.exceptions.proofs.end_state.Goals as goal

pub returns-then-list-lt-SIZE : goal.returns-then-list-lt-SIZE
returns-then-list-lt-SIZE c = says_none _ (omega (arith, size_is)) _

pub slice_bounds-end_state_words-end : goal.slice_bounds-end_state_words-end
slice_bounds-end_state_words-end c = sym (length-take-le 35886 c.args.list.now (omega (arith, size_is)))

pub end_state_words-requires : goal.end_state_words-requires
end_state_words-requires c = let h = c.requires.0 (omega (arith, size_is)) in ((list_words c.args.list.now h).0, (list_words c.args.list.now h).1, sound_letters _ c.requires.1)

pub returns : goal.returns
returns c = ends_list c.args.list.now (c.requires.0 (omega (arith, size_is))) c.args.name.now c.end_state_words.result c.end_state_words.ensures
