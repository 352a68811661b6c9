-- `exceptions::name_count` meets its contract.
-- Assumes nothing.
use Rattle.exceptions.proofs.Judged.{front_size, front_is, count_short, count_found}
use Rattle.exceptions.proofs.Sizes.{size_is}
use mathlib.Core.Path.{sym}
use native.Mathlib.Omega.{arith}
use Rattle.exceptions.proofs.name_count.Goals as goal

pub returns-then-list-lt-SIZE : goal.returns-then-list-lt-SIZE
returns-then-list-lt-SIZE c = count_short _ 35886 (sym size_is) (omega arith)

pub slice_bounds-names_counted-end : goal.slice_bounds-names_counted-end
slice_bounds-names_counted-end c = front_size 35886 c.args.list.now (omega arith)

pub names_counted-requires : goal.names_counted-requires
names_counted-requires c = front_is c.args.list.now 35886 (sym size_is) (omega arith)

pub returns : goal.returns
returns c = count_found _ 35886 (sym size_is) _ (omega arith) c.names_counted.ensures
