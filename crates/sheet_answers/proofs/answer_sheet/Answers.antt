-- `sheet_answers::answer_sheet` meets its contract, by the loop invariant `AnsweredTo`: whatever the names come to, what stands and what is to come make
-- the same lot.
-- Assumes nothing.
use mathlib.Core.Path.{sym, ◌∙◌}
use native.Mathlib.Omega.{arith}
use Rattle.many_names.proofs.Names.{next-count, next-whole}
use Rattle.sheet_answers.proofs.NextAnswer as N
use Rattle.sheet_answers.proofs.answer_sheet.Goals as goal

pub loop-phones-init : goal.loop-phones-init
loop-phones-init c = let a = c.args in
    N.answered-begin a.image.now a.list.now a.sheet.now a.ends.now a.starts.now a.kept.now a.limit a.phones.now a.numbers.now a.replies.now c.requires.4

pub has_next-requires : goal.has_next-requires
has_next-requires c = let a = c.args in
    let k = c.loop-phones in
    (N.going a.image.now a.list.now a.sheet.now a.ends.now a.starts.now a.kept.now a.limit a.phones.now a.numbers.now a.replies.now k.phones k.numbers k.replies k.p k.invariant c.requires.5).within.at_in

pub answer_next-p-requires : goal.answer_next-p-requires
answer_next-p-requires c = let a = c.args in
    let k = c.loop-phones in
    let h = sym c.has_next.ensures ∙ c.loop-phones-test.true in
    let g = (N.going a.image.now a.list.now a.sheet.now a.ends.now a.starts.now a.kept.now a.limit a.phones.now a.numbers.now a.replies.now k.phones k.numbers k.replies k.p k.invariant c.requires.5).within in
    let m = next-count a.sheet.now k.p.at k.p.count a.limit h in
    (c.requires.0, c.requires.1, next-whole a.sheet.now k.p.at k.p.count a.limit h, omega (arith, c.requires.2), omega (arith, c.requires.3), N.some-here a.image.now a.list.now a.sheet.now a.ends.now a.starts.now a.kept.now a.limit a.phones.now a.numbers.now a.replies.now k.phones k.numbers k.replies k.p k.invariant c.requires.5 h, g.phones-in, g.numbers-in, N.replies-room a.image.now a.list.now a.sheet.now a.ends.now a.starts.now a.kept.now a.limit a.phones.now a.numbers.now a.replies.now k.phones k.numbers k.replies k.p k.invariant c.requires.5 h)

pub loop-phones-smaller : goal.loop-phones-smaller
loop-phones-smaller c = let a = c.args in
    let k = c.loop-phones in
    let h = sym c.has_next.ensures ∙ c.loop-phones-test.true in
    omega (arith, N.count_next a.image.now a.list.now a.sheet.now a.ends.now a.starts.now a.kept.now a.limit a.phones.now a.numbers.now a.replies.now k.phones k.numbers k.replies k.p k.invariant c.requires.5 h _ _ _ _ c.answer_next-p.ensures, next-count a.sheet.now k.p.at k.p.count a.limit h)

pub loop-phones-preserved : goal.loop-phones-preserved
loop-phones-preserved c = let a = c.args in
    let k = c.loop-phones in
    let h = sym c.has_next.ensures ∙ c.loop-phones-test.true in
    N.answered-next a.image.now a.list.now a.sheet.now a.ends.now a.starts.now a.kept.now a.limit a.phones.now a.numbers.now a.replies.now k.phones k.numbers k.replies k.p k.invariant c.requires.5 h _ _ _ _ c.answer_next-p.ensures

pub shape_of-phones : goal.shape_of-phones
shape_of-phones c = let a = c.args in
    let k = c.loop-phones in
    (N.going a.image.now a.list.now a.sheet.now a.ends.now a.starts.now a.kept.now a.limit a.phones.now a.numbers.now a.replies.now k.phones k.numbers k.replies k.p k.invariant c.requires.5).phones-long

pub shape_of-numbers : goal.shape_of-numbers
shape_of-numbers c = let a = c.args in
    let k = c.loop-phones in
    (N.going a.image.now a.list.now a.sheet.now a.ends.now a.starts.now a.kept.now a.limit a.phones.now a.numbers.now a.replies.now k.phones k.numbers k.replies k.p k.invariant c.requires.5).numbers-long

pub shape_of-replies : goal.shape_of-replies
shape_of-replies c = let a = c.args in
    let k = c.loop-phones in
    (N.going a.image.now a.list.now a.sheet.now a.ends.now a.starts.now a.kept.now a.limit a.phones.now a.numbers.now a.replies.now k.phones k.numbers k.replies k.p k.invariant c.requires.5).replies-long

pub returns : goal.returns
returns c = let a = c.args in
    let k = c.loop-phones in
    let h = sym c.has_next.ensures ∙ c.loop-phones-test.false in
    N.answered-end a.image.now a.list.now a.sheet.now a.ends.now a.starts.now a.kept.now a.limit a.phones.now a.numbers.now a.replies.now k.phones k.numbers k.replies k.p k.invariant c.requires.5 h
