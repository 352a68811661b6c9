-- `sheet_answers::answer_name` meets its contract: from the list, by its kept parts, or refused with 3.
-- Assumes nothing.
use native.Mathlib.Omega.{arith}
use mathlib.Core.Path.{refl}
use Rattle.sheet_answers.proofs.OneAnswer as O
use Rattle.sheet_answers.proofs.answer_name.Goals as goal

pub answer_unsent-requires : goal.answer_unsent-requires
answer_unsent-requires c = (c.requires.1, record { outcome = c.requires.2.outcome; unsent = c.requires.2.kept.unsent c.if-end-eq0.true })

pub returns-then-end-eq0 : goal.returns-then-end-eq0
returns-then-end-eq0 c = let a = c.args in
    O.kept-unsent a.image.now a.list.now a.name.now a.end a.parts.now a.phones.now a.numbers.now _ c.answer_unsent.result c.if-end-eq0.true c.answer_unsent.ensures

pub deliver-requires : goal.deliver-requires
deliver-requires c = let a = c.args in
    let k = O.kept-few a.image.now a.list.now a.name.now a.end a.parts.now (omega (arith, c.if-end-eq0.false)) (omega arith) _ c.requires.2.kept in
    (c.requires.0, (k, (c.requires.2.kept.sent (omega (arith, c.if-end-eq0.false))).within))

pub returns-then-ended-lt-UNCOVERED : goal.returns-then-ended-lt-UNCOVERED
returns-then-ended-lt-UNCOVERED c = let a = c.args in
    O.kept-said a.image.now a.list.now a.name.now a.end a.parts.now (omega (arith, c.if-end-eq0.false)) (omega arith) a.phones.now a.numbers.now _ _ c.deliver.result c.deliver.ensures

pub returns : goal.returns
returns c = let a = c.args in
    O.kept-uncovered a.image.now a.list.now a.name.now a.end a.parts.now (omega arith) _ refl a.phones.now a.numbers.now
