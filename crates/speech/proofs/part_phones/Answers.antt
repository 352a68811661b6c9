-- `speech::part_phones` meets its contract: a rule has at most four phones, a listed word at most 64.
-- Assumes nothing.
use mathlib.Core.Path.{sym, ap, ◌∙◌}
use native.Mathlib.Omega.{arith}
use lib.ListN.{length}
use Rattle.speech.proofs.Written.{rule_phones, listed_phones, part_most}
use Rattle.speech.proofs.part_phones.Goals as goal

pub phones_at-said-requires : goal.phones_at-said-requires
phones_at-said-requires c = omega (arith, c.requires.rule (omega (arith, c.place_in-place.ensures)), c.place_in-place.ensures)

pub returns-then-place-lt-MAX_RULES : goal.returns-then-place-lt-MAX_RULES
returns-then-place-lt-MAX_RULES c = let a = c.args in
    let e = ap length (c.phones_at-said.ensures ∙ sym (rule_phones a.rules.bytes.now a.list.now a.part c.place_in-place.result c.place_in-place.ensures c.if-place-lt-MAX_RULES.true)) in
    (e, omega (arith, e, part_most a.rules.bytes.now a.list.now a.rules.sound a.part c.requires))

pub phone_count-requires : goal.phone_count-requires
phone_count-requires c = rw c.place_in-place.ensures (c.requires.state (omega (arith, c.place_in-place.ensures)))

pub returns : goal.returns
returns c = (c.phone_count.ensures.0 ∙ sym (ap length (listed_phones c.args.rules.bytes.now c.args.list.now c.args.part c.place_in-place.result c.place_in-place.ensures c.if-place-lt-MAX_RULES.false)), c.phone_count.ensures.1)
