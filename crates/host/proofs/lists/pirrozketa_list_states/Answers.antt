-- `host::lists::pirrozketa_list_states` meets its contract.
-- Assumes nothing.
use native.Mathlib.Omega.{arith}
use Rattle.host.proofs.ListNumbers.{states_small}
use borrow.Author.Rules.{rules}
use Rattle.host.proofs.lists.pirrozketa_list_states.Goals as goal

pub overflow_cast-result : goal.overflow_cast-result
overflow_cast-result c = omega (arith, c.state_count.ensures, states_small c.args.list.now)
