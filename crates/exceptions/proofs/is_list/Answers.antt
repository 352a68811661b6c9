-- `exceptions::is_list` meets its contract.
-- Assumes nothing.
use Rattle.exceptions.proofs.Judged.{front_size, front_is, list_short, list_found}
use Rattle.exceptions.proofs.Sizes.{size_is}
use mathlib.Core.Path.{sym}
use native.Mathlib.Omega.{arith}
use Rattle.exceptions.proofs.is_list.Goals as goal

pub returns-then-list-lt-SIZE : goal.returns-then-list-lt-SIZE
returns-then-list-lt-SIZE c = list_short _ 35886 (sym size_is) (omega arith)

pub slice_bounds-words_listed-end : goal.slice_bounds-words_listed-end
slice_bounds-words_listed-end c = front_size 35886 c.args.list.now (omega arith)

pub words_listed-requires : goal.words_listed-requires
words_listed-requires c = front_is c.args.list.now 35886 (sym size_is) (omega arith)

pub returns : goal.returns
returns c = list_found _ 35886 (sym size_is) _ (omega arith) c.words_listed.ensures
