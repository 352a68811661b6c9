-- `change_history::replay_all` meets its contract.
-- Assumes nothing.
use Prim.Native.Nat.{◌-◌}
use borrow.Author.Rules.{rules}
use Rattle.rules.specs.Refusals.{reply_of}
use Rattle.change_history.proofs.Turns.{Going, going_start, going_on, going_end}
use Rattle.change_history.proofs.replay_all.Goals as goal

pub loop-i-init : goal.loop-i-init
loop-i-init c = let a = c.args in
    let p = c.requires in
    going_start a.code.now a.text.now a.list.now a.answers.now a.places.now a.n p.1 p.2

pub loop-i-preserved : goal.loop-i-preserved
loop-i-preserved c = let l = c.loop-i in
    let a = c.args in
    going_on a.code.now a.text.now a.list.now a.answers.now a.places.now a.n l.list l.answers l.places l.i l.at l.from l.invariant
    _ _ (reply_of c.apply-a.result) _ c.answer_code.result c.answer_place.result c.loop-i-test.true c.requires.0
    c.end_of-middle.ensures c.end_of-end.ensures (search rules) c.apply-a.ensures
    c.answer_code.ensures c.answer_place.ensures

pub shape_of-list : goal.shape_of-list
shape_of-list c = c.loop-i.invariant.«list_long»

pub shape_of-answers : goal.shape_of-answers
shape_of-answers c = c.loop-i.invariant.«answers-long»

pub shape_of-places : goal.shape_of-places
shape_of-places c = c.loop-i.invariant.«places-long»

pub returns : goal.returns
returns c = let l = c.loop-i in
    let a = c.args in
    going_end a.code.now a.text.now a.list.now a.answers.now a.places.now a.n l.list l.answers l.places l.i l.at l.from l.invariant
    c.loop-i-test.false
