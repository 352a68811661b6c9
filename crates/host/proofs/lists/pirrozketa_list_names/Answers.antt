-- `host::lists::pirrozketa_list_names` meets its contract.
-- Assumes nothing.
use native.Mathlib.Omega.{arith}
use Rattle.host.proofs.ListNumbers.{names_small}
use borrow.Author.Rules.{rules}
use Rattle.host.proofs.lists.pirrozketa_list_names.Goals as goal

pub overflow_cast-result : goal.overflow_cast-result
overflow_cast-result c = omega (arith, c.name_count.ensures, names_small c.args.list.now)
