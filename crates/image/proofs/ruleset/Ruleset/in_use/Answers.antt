-- `image::ruleset::Ruleset::in_use` meets its contract: the rules are looked at in turn.
-- Assumes nothing.
use mathlib.Core.Path.{refl, sym, ◌∙◌}
use Rattle.image.proofs.Uses.{uses_here, uses_on, uses_end}
use native.Mathlib.Omega.{arith}
use Rattle.image.proofs.ruleset.Ruleset.in_use.Goals as goal

pub loop-i-init : goal.loop-i-init
loop-i-init c = refl

pub left_at-left-requires : goal.left_at-left-requires
left_at-left-requires c = omega (arith, c.rule_count-count.ensures)

pub right_at-right-requires : goal.right_at-right-requires
right_at-right-requires c = omega (arith, c.rule_count-count.ensures)

pub returns-then-uses : goal.returns-then-uses
returns-then-uses c = sym (c.loop-i.invariant ∙ uses_here c.args.self.bytes.now c.args.symbol c.loop-i.i (omega (arith, c.rule_count-count.ensures)) _ _ c.left_at-left.ensures c.right_at-right.ensures (sym c.uses.ensures ∙ c.if-uses.true))

pub loop-i-preserved : goal.loop-i-preserved
loop-i-preserved c = c.loop-i.invariant ∙ uses_on c.args.self.bytes.now c.args.symbol c.loop-i.i (omega (arith, c.rule_count-count.ensures)) _ _ c.left_at-left.ensures c.right_at-right.ensures (sym c.uses.ensures ∙ c.if-uses.false)

pub returns : goal.returns
returns c = sym (c.loop-i.invariant ∙ uses_end c.args.self.bytes.now c.args.symbol c.loop-i.i (omega (arith, c.rule_count-count.ensures)))
