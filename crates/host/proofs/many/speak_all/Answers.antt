-- `host::many::speak_all` meets its contract, by the loop invariant `Going`: what stands and what is to come make the same lot.
-- Assumes nothing.
use Prim.Native.Nat.{◌-◌, ◌/◌}
use mathlib.Core.Path.{sym, ap, ◌∙◌}
use lib.ListN.{length}
use Rattle.rules.specs.Memory.{over}
use Rattle.many_names.specs.Many.{reply_size, Lot}
use native.Mathlib.Omega.{arith}
use Rattle.tables.specs.Walk.{walk_said}
use Rattle.exceptions.specs.Judging.{listing_of}
use Rattle.many_names.proofs.Names.{next-count, next-whole}
use Rattle.many_names.proofs.Answering.{Going, begin, next, end-count, end-replies, end-phones, end-numbers}
use Rattle.host.proofs.Answering.{walk_fits, all_is}
use Rattle.host.proofs.many.speak_all.Goals as goal

pub loop-rules-init : goal.loop-rules-init
loop-rules-init c = let a = c.args in
    begin (walk_said a.rules.bytes.now (listing_of a.list.now) a.words.now a.sets.now) a.names.now (length a.replies.now / reply_size) a.phones.now a.numbers.now a.replies.now (omega arith)

pub has_next-requires : goal.has_next-requires
has_next-requires c = c.loop-rules.invariant.within.at_in

pub speak_next-p-requires : goal.speak_next-p-requires
speak_next-p-requires c = let a = c.args in
    let l = c.loop-rules in
    let h = sym c.has_next.ensures ∙ c.loop-rules-test.true in
    (c.requires, next-whole a.names.now l.p.at l.p.count (length a.replies.now / reply_size) h, l.invariant.within.phones-in, l.invariant.within.numbers-in, omega (arith, next-count a.names.now l.p.at l.p.count (length a.replies.now / reply_size) h, l.invariant.within.replies-in))

pub loop-rules-smaller : goal.loop-rules-smaller
loop-rules-smaller c = let a = c.args in
    let l = c.loop-rules in
    let h = sym c.has_next.ensures ∙ c.loop-rules-test.true in
    omega (arith, c.speak_next-p.ensures.count_next, next-count a.names.now l.p.at l.p.count (length a.replies.now / reply_size) h)

pub loop-rules-preserved : goal.loop-rules-preserved
loop-rules-preserved c = let a = c.args in
    let l = c.loop-rules in
    let h = sym c.has_next.ensures ∙ c.loop-rules-test.true in
    next (walk_said a.rules.bytes.now (listing_of a.list.now) a.words.now a.sets.now) a.names.now (length a.replies.now / reply_size) (walk_fits a.rules.bytes.now (listing_of a.list.now) a.words.now a.sets.now) a.phones.now a.numbers.now a.replies.now l.phones l.numbers l.replies l.p l.invariant h _ _ _ _ c.speak_next-p.ensures

pub shape_of-phones : goal.shape_of-phones
shape_of-phones c = c.loop-rules.invariant.phones-long

pub shape_of-numbers : goal.shape_of-numbers
shape_of-numbers c = c.loop-rules.invariant.numbers-long

pub shape_of-replies : goal.shape_of-replies
shape_of-replies c = c.loop-rules.invariant.replies-long

pub returns : goal.returns
returns c = let a = c.args in
    let l = c.loop-rules in
    let h = sym c.has_next.ensures ∙ c.loop-rules-test.false in
    let e = sym (all_is a.rules.bytes.now (listing_of a.list.now) a.words.now a.sets.now a.names.now a.phones.now a.numbers.now a.replies.now) in
    record {
      count = end-count (walk_said a.rules.bytes.now (listing_of a.list.now) a.words.now a.sets.now) a.names.now (length a.replies.now / reply_size) a.phones.now a.numbers.now a.replies.now l.phones l.numbers l.replies l.p l.invariant h ∙ ap (λ (m : Lot). m.count) e;
      replies = end-replies (walk_said a.rules.bytes.now (listing_of a.list.now) a.words.now a.sets.now) a.names.now (length a.replies.now / reply_size) a.phones.now a.numbers.now a.replies.now l.phones l.numbers l.replies l.p l.invariant h ∙ ap (λ (m : Lot). over m.replies a.replies.now) e;
      phones = end-phones (walk_said a.rules.bytes.now (listing_of a.list.now) a.words.now a.sets.now) a.names.now (length a.replies.now / reply_size) a.phones.now a.numbers.now a.replies.now l.phones l.numbers l.replies l.p l.invariant h ∙ ap (λ (m : Lot). m.phones) e;
      numbers = end-numbers (walk_said a.rules.bytes.now (listing_of a.list.now) a.words.now a.sets.now) a.names.now (length a.replies.now / reply_size) a.phones.now a.numbers.now a.replies.now l.phones l.numbers l.replies l.p l.invariant h ∙ ap (λ (m : Lot). m.numbers) e;
    }
