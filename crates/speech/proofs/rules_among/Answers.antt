-- `speech::rules_among` meets its contract: after k parts the rules among them are counted, the rest decides the whole.
-- Assumes nothing.
use native.Mathlib.Omega.{arith}
use Rattle.speech.proofs.Counted.{tallied_begin, tallied_rule, tallied_other, tallied_end}
use Rattle.speech.proofs.rules_among.Goals as goal
use Rattle.speech.proofs.rules_among.Goals.{then-place_in-lt-MAX_RULES, else-place_in-lt-MAX_RULES}

pub loop-part-init : goal.loop-part-init
loop-part-init c = tallied_begin c.args.parts.now

pub overflow_add-count : goal.overflow_add-count
overflow_add-count c = omega (arith, c.loop-part.invariant.small, c.requires)

pub loop-part-preserved : goal.loop-part-preserved
loop-part-preserved c = let ps = c.args.parts.now in
    let l = c.loop-part in
    elim c.if-place_in-lt-MAX_RULES.branch [
      | then-place_in-lt-MAX_RULES a ↦
          rw a.count-is (tallied_rule ps l.part-index l.count l.invariant (omega arith) (omega (arith, a.if-place_in-lt-MAX_RULES.true, c.place_in.ensures)))
      | else-place_in-lt-MAX_RULES a ↦
          rw a.count-is (tallied_other ps l.part-index l.count l.invariant (omega arith) (omega (arith, a.if-place_in-lt-MAX_RULES.false, c.place_in.ensures)))
    ]

pub returns : goal.returns
returns c = tallied_end c.args.parts.now c.loop-part.part-index c.loop-part.count c.loop-part.invariant (omega arith)
