-- `minimality::listed` meets its contract.
-- Assumes nothing.
use Rattle.minimality.proofs.Good.{laid_of, sound_of, offsets_fail, rows_fail, apart_fails, listed_decided}
use Rattle.minimality.proofs.Scan.{fails, holds}
use native.Mathlib.Omega.{arith}
use borrow.Author.Rules.{rules}
use Rattle.minimality.proofs.listed.Goals as goal

pub returns-then-not-offsets : goal.returns-then-not-offsets
returns-then-not-offsets c = offsets_fail _ _ c.requires.states (fails _ _ c.offsets.ensures c.if-not-offsets.true-raw)

pub rows_good-requires : goal.rows_good-requires
rows_good-requires c = (c.requires.states, c.requires.memory, holds _ _ c.offsets.ensures c.if-not-offsets.false-raw)

pub returns-then-not-rows_good : goal.returns-then-not-rows_good
returns-then-not-rows_good c = rows_fail _ _ c.requires.states (fails _ _ c.rows_good.ensures c.if-not-rows_good.true-raw)

pub apart-requires : goal.apart-requires
apart-requires c = record { laid = laid_of _ _ c.requires.states (holds _ _ c.offsets.ensures c.if-not-offsets.false-raw) (holds _ _ c.rows_good.ensures c.if-not-rows_good.false-raw); keys = c.requires.keys; room = c.requires.room }

pub returns-then-not-apart : goal.returns-then-not-apart
returns-then-not-apart c = apart_fails _ _ c.requires.states (fails _ _ c.apart.ensures c.if-not-apart.true-raw)

pub rows_needed-requires : goal.rows_needed-requires
rows_needed-requires c = let o = holds _ _ c.offsets.ensures c.if-not-offsets.false-raw in
    let g = holds _ _ c.rows_good.ensures c.if-not-rows_good.false-raw in
    let a = holds _ _ c.apart.ensures c.if-not-apart.false-raw in
    let l = c.apart.auto.links in
    let r = c.requires.room in
    record { sound = sound_of _ _ c.requires.states o g a; laid = laid_of _ _ c.requires.states o g; states = c.requires.states; marked = omega arith; small = c.requires.small }

pub returns : goal.returns
returns c = listed_decided _ _ c.requires.states _ (holds _ _ c.offsets.ensures c.if-not-offsets.false-raw) (holds _ _ c.rows_good.ensures c.if-not-rows_good.false-raw) (holds _ _ c.apart.ensures c.if-not-apart.false-raw) c.rows_needed.ensures
