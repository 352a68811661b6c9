-- `exceptions::judging::judge` meets its contract.
-- Assumes nothing.
use Rattle.exceptions.proofs.Judged.{states_fail, automaton_ask, automaton_fails, names_ask}
use Rattle.minimality.proofs.Scan.{fails, holds}
use native.Mathlib.Omega.{arith}
use borrow.Author.Rules.{rules}
use Rattle.exceptions.proofs.judging.judge.Goals as goal

pub returns-then-n-gt-MAX_STATES : goal.returns-then-n-gt-MAX_STATES
returns-then-n-gt-MAX_STATES c = states_fail _ _ c.start_of-n.ensures (omega arith)

pub listed-requires : goal.listed-requires
listed-requires c = automaton_ask _ _ _ _ c.requires (omega arith)

pub returns-then-not-listed : goal.returns-then-not-listed
returns-then-not-listed c = automaton_fails _ _ c.start_of-n.ensures (fails _ _ c.listed.ensures c.if-not-listed.true-raw)

pub names_listed-requires : goal.names_listed-requires
names_listed-requires c = names_ask _ _ _ _ _ c.requires c.start_of-n.ensures (omega arith) c.listed.auto.links (holds _ _ c.listed.ensures c.if-not-listed.false-raw)
