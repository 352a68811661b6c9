-- `history::replay_all` meets its contract.
-- Assumes nothing.
use native.Mathlib.Omega.{arith}
use borrow.Author.Rules.{rules}
use Rattle.rules.specs.Refusals.{reply_of}
use Rattle.history.proofs.Runs.{going_start, going_on, going_end}
use Rattle.history.proofs.replay_all.Goals as goal

pub loop-i-init : goal.loop-i-init
loop-i-init c = let a = c.args in
    going_start a.letters.now a.code.now a.image.now a.answers.now a.places.now a.n

pub loop-i-preserved : goal.loop-i-preserved
loop-i-preserved c = let a = c.args in
    let l = c.loop-i in
    going_on a.letters.now a.code.now a.image.now a.answers.now a.places.now a.n l.image l.answers l.places l.i l.invariant
    (reply_of c.edit-a.result) _ c.answer_code.result c.answer_place.result (omega arith) c.requires (search rules) c.edit-a.ensures
    c.answer_code.ensures c.answer_place.ensures

pub shape_of-image : goal.shape_of-image
shape_of-image c = c.loop-i.invariant.«image-long»

pub shape_of-answers : goal.shape_of-answers
shape_of-answers c = c.loop-i.invariant.«answers-long»

pub shape_of-places : goal.shape_of-places
shape_of-places c = c.loop-i.invariant.«places-long»

pub returns : goal.returns
returns c = let a = c.args in
    let l = c.loop-i in
    going_end a.letters.now a.code.now a.image.now a.answers.now a.places.now a.n l.image l.answers l.places l.i l.invariant
    c.loop-i-test.false
