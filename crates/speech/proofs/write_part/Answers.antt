-- `speech::write_part` meets its contract: a rule gives its phones and its number, a listed word its phones.
-- Assumes nothing.
use Prim.Native.Nat.{ℕ, ◌+◌}
use mathlib.Core.Path.{refl, sym, ap, ◌∙◌}
use mathlib.Core.List.{[], ◌∷◌}
use native.Mathlib.Omega.{arith}
use lib.ListN.{length}
use Rattle.image.proofs.Entries.{number_is_at, entry_shaped}
use Rattle.speech.specs.Places.{part_at}
use Rattle.speech.proofs.Written.{rule_phones, rule_numbers, rule_contested, listed_phones, listed_numbers, listed_contested, given_rule, given_listed}
use Rattle.speech.proofs.Counted.{contested_least}
use Rattle.speech.proofs.write_part.Goals as goal

pub bounds-numbers-at : goal.bounds-numbers-at
bounds-numbers-at c = omega (arith, c.requires.2, ap length (rule_numbers c.args.rules.bytes.now c.args.list.now c.args.part _ c.place_in-place.ensures c.if-place-lt-MAX_RULES.true))

pub phones_at-said-requires : goal.phones_at-said-requires
phones_at-said-requires c = omega (arith, c.requires.0.rule (omega (arith, c.if-place-lt-MAX_RULES.true, c.place_in-place.ensures)), c.place_in-place.ensures)

pub put_phones-requires : goal.put_phones-requires
put_phones-requires c = let e = c.place_in-place.ensures in
    let u = c.if-place-lt-MAX_RULES.true in
    let p = c.phones_at-said.ensures in
    let w = (entry_shaped c.args.rules.bytes.now c.args.rules.sound c.place_in-place.result (omega (arith, c.requires.0.rule (omega arith)))).phones-most in (
      omega (arith, w, ap length p),
      omega (arith, c.requires.1, ap length p, ap length (rule_phones c.args.rules.bytes.now c.args.list.now c.args.part _ e u)),
    )

pub overflow_add-result-then-place-lt-MAX_RULES-2 : goal.overflow_add-result-then-place-lt-MAX_RULES-2
overflow_add-result-then-place-lt-MAX_RULES-2 c = omega (
  arith,
  c.requires.3,
  c.contested_in.ensures,
  rule_contested c.args.rules.bytes.now c.args.list.now c.args.part _ c.place_in-place.ensures c.if-place-lt-MAX_RULES.true,
  contested_least (part_at c.args.rules.bytes.now c.args.list.now c.args.part),
)

pub returns-then-place-lt-MAX_RULES : goal.returns-then-place-lt-MAX_RULES
returns-then-place-lt-MAX_RULES c = let e = c.place_in-place.ensures in
    let u = c.if-place-lt-MAX_RULES.true in
    let b = rule_numbers c.args.rules.bytes.now c.args.list.now c.args.part _ e u in
    given_rule (part_at c.args.rules.bytes.now c.args.list.now c.args.part) c.args.given _ c.args.phones.now c.args.numbers.now _ _ c.phones_at-said.result.now
    (rule_phones c.args.rules.bytes.now c.args.list.now c.args.part _ e u ∙ sym c.phones_at-said.ensures) refl c.put_phones.ensures
    c.number_at.result c.contested_in.result
    (b ∙ ap (λ (n : ℕ). n ∷ []) (number_is_at c.args.rules.bytes.now c.args.rules.sound _ (omega (arith, c.requires.0.rule (omega arith))) ∙ sym c.number_at.ensures))
    (rule_contested c.args.rules.bytes.now c.args.list.now c.args.part _ e u ∙ sym c.contested_in.ensures)
    refl refl (omega (arith, c.requires.2, ap length b)) refl

pub write_phones-count-requires : goal.write_phones-count-requires
write_phones-count-requires c = let e = c.place_in-place.ensures in (
  rw e (c.requires.0.state (omega (arith, c.if-place-lt-MAX_RULES.false))),
  omega (arith, c.requires.1, ap length (listed_phones c.args.rules.bytes.now c.args.list.now c.args.part _ e c.if-place-lt-MAX_RULES.false)),
)

pub overflow_add-result-2 : goal.overflow_add-result-2
overflow_add-result-2 c = omega (arith, c.requires.1, c.write_phones-count.ensures.count, ap length (listed_phones c.args.rules.bytes.now c.args.list.now c.args.part _ c.place_in-place.ensures c.if-place-lt-MAX_RULES.false))

pub returns : goal.returns
returns c = let e = c.place_in-place.ensures in
    let u = c.if-place-lt-MAX_RULES.false in
    given_listed (part_at c.args.rules.bytes.now c.args.list.now c.args.part) c.args.given _ c.args.phones.now c.args.numbers.now _ _ _
    (listed_phones c.args.rules.bytes.now c.args.list.now c.args.part _ e u) (ap (λ (n : ℕ). c.args.given.phones + n) c.write_phones-count.ensures.count) c.write_phones-count.ensures.phones
    (listed_numbers c.args.rules.bytes.now c.args.list.now c.args.part _ e u) (listed_contested c.args.rules.bytes.now c.args.list.now c.args.part _ e u) refl refl refl
