-- `minimality::cell_good` meets its contract.
-- Assumes nothing.
use Rattle.minimality.proofs.Good.{cell_low, cell_high, cell_none, cell_turn, cell_voice, cell_next}
use native.Mathlib.Omega.{arith}
use borrow.Author.Rules.{rules}
use Rattle.minimality.proofs.cell_good.Goals as goal

pub returns-then-k-lo : goal.returns-then-k-lo
returns-then-k-lo c = cell_low _ _ _ _ c.key-k.ensures c.if-k-lo.true

pub returns-then-k-ge-PLACES : goal.returns-then-k-ge-PLACES
returns-then-k-ge-PLACES c = cell_high _ _ _ _ c.key-k.ensures c.if-k-ge-PLACES.true

pub returns-then-v-eq0 : goal.returns-then-v-eq0
returns-then-v-eq0 c = cell_none _ _ _ _ c.val-v.ensures.0 c.if-v-eq0.true

pub returns-then-k-lt-PHONES : goal.returns-then-k-lt-PHONES
returns-then-k-lt-PHONES c = cell_turn _ _ _ _ _ c.key-k.ensures c.val-v.ensures.0 (omega arith) (omega arith) (omega arith)

pub returns-then-k-eq-PHONES : goal.returns-then-k-eq-PHONES
returns-then-k-eq-PHONES c = cell_voice _ _ _ _ _ c.key-k.ensures c.val-v.ensures.0 (omega arith) (omega arith) c.if-k-eq-PHONES.true

pub returns : goal.returns
returns c = cell_next _ _ _ _ _ c.key-k.ensures c.val-v.ensures.0 (omega arith) (omega arith) (omega arith) (omega arith)
