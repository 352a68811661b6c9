-- `exceptions::state_count` meets its contract.
-- Assumes nothing.
use Rattle.exceptions.proofs.Judged.{no_states, states_found, list-size}
use native.Mathlib.Omega.{arith}
use borrow.Author.Rules.{rules}
use Rattle.exceptions.proofs.state_count.Goals as goal

pub returns-then-not-is_list : goal.returns-then-not-is_list
returns-then-not-is_list c = no_states _ _ c.is_list.ensures c.if-not-is_list.true-raw

pub start_of-n-requires : goal.start_of-n-requires
start_of-n-requires c = list-size _ _ c.is_list.ensures c.if-not-is_list.false-raw

pub returns-then-n-eq0 : goal.returns-then-n-eq0
returns-then-n-eq0 c = states_found _ _ _ _ c.is_list.ensures c.if-not-is_list.false-raw c.start_of-n.ensures (omega arith)

pub returns : goal.returns
returns c = states_found _ _ _ _ c.is_list.ensures c.if-not-is_list.false-raw c.start_of-n.ensures (omega arith)
