-- `sheet_answers::answer_next` meets its contract: the next name, answered in the part of the lent memory after the answers before it.
-- Assumes nothing.
use native.Mathlib.Omega.{arith}
use mathlib.Core.Path.{refl}
use Rattle.sheet_answers.proofs.NextAnswer as N
use Rattle.sheet_answers.proofs.answer_next.Goals as goal

pub slice_bounds-answer_name-end-2 : goal.slice_bounds-answer_name-end-2
slice_bounds-answer_name-end-2 c = let a = c.args in
    let n = c.from in
    let m = c.parts_in in
    N.last-in a.image.now a.list.now a.sheet.now a.ends.now a.starts.now a.kept.now a.p n.result n.ensures _ refl m.result m.ensures c.requires.5

pub answer_name-speech-requires : goal.answer_name-speech-requires
answer_name-speech-requires c = let a = c.args in
    let n = c.from in
    let m = c.parts_in in
    (c.requires.0, c.requires.1, N.some-kept a.image.now a.list.now a.sheet.now a.ends.now a.starts.now a.kept.now a.p n.result n.ensures _ refl m.result m.ensures c.requires.5)

pub overflow_add-result : goal.overflow_add-result
overflow_add-result c = omega (arith, c.requires.3, c.well_formed.1.1.1.0)

pub overflow_add-result-2 : goal.overflow_add-result-2
overflow_add-result-2 c = let a = c.args in
    let n = c.from in
    let m = c.parts_in in
    let w = c.answer_name-speech in
    omega (arith, N.phones-room a.image.now a.list.now a.sheet.now a.ends.now a.starts.now a.kept.now a.p n.result n.ensures _ refl m.result m.ensures a.phones.now a.numbers.now a.replies.now w.result w.new.phones w.new.numbers w.ensures c.requires.5 c.phones_given.result c.phones_given.ensures c.requires.6, c.well_formed.1.1.1.1.1.1.0)

pub overflow_add-result-3 : goal.overflow_add-result-3
overflow_add-result-3 c = let a = c.args in
    let n = c.from in
    let m = c.parts_in in
    let w = c.answer_name-speech in
    omega (arith, N.numbers-room a.image.now a.list.now a.sheet.now a.ends.now a.starts.now a.kept.now a.p n.result n.ensures _ refl m.result m.ensures a.phones.now a.numbers.now a.replies.now w.result w.new.phones w.new.numbers w.ensures c.requires.5 c.numbers_given.result c.numbers_given.ensures c.requires.7, c.well_formed.1.1.1.1.1.1.1.0)

pub returns : goal.returns
returns c = let a = c.args in
    let n = c.from in
    let m = c.parts_in in
    let w = c.answer_name-speech in
    N.next-kept a.image.now a.list.now a.sheet.now a.ends.now a.starts.now a.kept.now a.p n.result n.ensures _ refl m.result m.ensures a.phones.now a.numbers.now a.replies.now w.result w.new.phones w.new.numbers w.ensures c.phones_given.result c.numbers_given.result c.phones_given.ensures c.numbers_given.ensures _ c.put_reply.ensures
