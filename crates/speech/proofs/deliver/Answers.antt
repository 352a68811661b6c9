-- `speech::deliver` meets its contract: a case of `delivered` for each way out.
-- Assumes nothing.
use Prim.Native.Nat.{ℕ}
use mathlib.Core.Path.{sym, ap, ◌∙◌}
use borrow.Author.Tests.{leb-true}
use lib.Dec.{leb}
use lib.ListN.{length}
use Rattle.speech.specs.Places.{parts_at}
use Rattle.speech.proofs.Written.{numbers_count, phones_short, numbers_short, both_written}
use Rattle.speech.proofs.deliver.Goals as goal

pub returns-then-not-phones_fit : goal.returns-then-not-phones_fit
returns-then-not-phones_fit c = let a = c.args in
    phones_short (parts_at a.image.now a.list.now a.parts.now) a.phones.now a.numbers.now
    (sym c.phones_fit.ensures ∙ c.if-not-phones_fit.true) _ c.phone_count.ensures

pub returns-then-not-numbers_fit : goal.returns-then-not-numbers_fit
returns-then-not-numbers_fit c = let a = c.args in
    let n = numbers_count a.image.now a.list.now a.parts.now in
    numbers_short (parts_at a.image.now a.list.now a.parts.now) a.phones.now a.numbers.now
    (sym c.phones_fit.ensures ∙ c.if-not-phones_fit.false)
    (ap (λ (k : ℕ). leb k (length a.numbers.now)) n ∙ (sym c.numbers_fit.ensures ∙ c.if-not-numbers_fit.true))
    _ (c.rules_among.ensures ∙ sym n)

pub write_parts-given-requires : goal.write_parts-given-requires
write_parts-given-requires c = (
  c.requires.1.0,
  c.requires.1.1,
  leb-true _ _ (sym c.phones_fit.ensures ∙ c.if-not-phones_fit.false),
  leb-true _ _ (ap (λ (k : ℕ). leb k (length c.args.numbers.now)) (numbers_count c.args.image.now c.args.list.now c.args.parts.now) ∙ (sym c.numbers_fit.ensures ∙ c.if-not-numbers_fit.false)),
)

pub returns : goal.returns
returns c = let a = c.args in
    let w = c.write_parts-given.ensures in
    both_written (parts_at a.image.now a.list.now a.parts.now) a.phones.now a.numbers.now
    (sym c.phones_fit.ensures ∙ c.if-not-phones_fit.false)
    (ap (λ (k : ℕ). leb k (length a.numbers.now)) (numbers_count a.image.now a.list.now a.parts.now) ∙ (sym c.numbers_fit.ensures ∙ c.if-not-numbers_fit.false))
    _ w.given _ _ w.phones w.numbers
