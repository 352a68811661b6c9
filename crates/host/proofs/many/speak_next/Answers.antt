-- `host::many::speak_next` meets its contract: one walk, in the part of the lent memory after the answers before it.
-- Assumes nothing.
use native.Mathlib.Omega.{arith}
use borrow.Author.Rules.{rules}
use Rattle.exceptions.specs.Judging.{listing_of}
use Rattle.tables.specs.Walk.{walk_said}
use Rattle.many_names.proofs.Answering.{phones-room, numbers-room, next-is}
use Rattle.host.proofs.Answering.{walk_fits}
use Rattle.host.proofs.many.speak_next.Goals as goal

pub overflow_mul-p : goal.overflow_mul-p
overflow_mul-p c = omega (arith, c.requires.4, c.well_formed.1.1.1.1.1.1.1.0)

pub overflow_add-result : goal.overflow_add-result
overflow_add-result c = omega (arith, c.requires.4, c.well_formed.1.1.1.1.1.1.1.0)

pub overflow_add-result-2 : goal.overflow_add-result-2
overflow_add-result-2 c = let a = c.args in
    let f = walk_said a.rules.bytes.now (listing_of a.list.now) a.words.now a.sets.now in
    let w = c.speak_known-answer in
    let n = c.from in
    omega (arith, phones-room f (walk_fits a.rules.bytes.now (listing_of a.list.now) a.words.now a.sets.now) a.names.now a.phones.now a.numbers.now a.replies.now a.p n.result n.ensures w.result.speech w.result.steps w.new.phones w.new.numbers w.ensures c.phones_given.result c.phones_given.ensures c.requires.2, c.well_formed.1.1.1.1.1.0)

pub overflow_add-result-3 : goal.overflow_add-result-3
overflow_add-result-3 c = let a = c.args in
    let f = walk_said a.rules.bytes.now (listing_of a.list.now) a.words.now a.sets.now in
    let w = c.speak_known-answer in
    let n = c.from in
    omega (arith, numbers-room f (walk_fits a.rules.bytes.now (listing_of a.list.now) a.words.now a.sets.now) a.names.now a.phones.now a.numbers.now a.replies.now a.p n.result n.ensures w.result.speech w.result.steps w.new.phones w.new.numbers w.ensures c.numbers_given.result c.numbers_given.ensures c.requires.3, c.well_formed.1.1.1.1.1.1.0)

pub returns : goal.returns
returns c = let a = c.args in
    let f = walk_said a.rules.bytes.now (listing_of a.list.now) a.words.now a.sets.now in
    let w = c.speak_known-answer in
    let n = c.from in
    next-is f (walk_fits a.rules.bytes.now (listing_of a.list.now) a.words.now a.sets.now) a.names.now a.phones.now a.numbers.now a.replies.now a.p n.result n.ensures w.result.speech w.result.steps w.new.phones w.new.numbers w.ensures c.phones_given.result c.numbers_given.result c.phones_given.ensures c.numbers_given.ensures _ c.put_reply.ensures
