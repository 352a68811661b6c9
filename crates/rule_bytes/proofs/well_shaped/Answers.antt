-- `rule_bytes::well_shaped` meets its contract: the parts of its bytes are its fields.
-- Assumes nothing.
use mathlib.Core.Path.{sym, ◌∙◌}
use native.Mathlib.Omega.{arith}
use lib.ListN.{drop, length-drop}
use lib.Seq.{length-take-le}
use Rattle.rules.specs.Limits.{max_context, max_target, max_phones}
use Rattle.rules.specs.Shape.{shape}
use Rattle.rule_bytes.specs.RuleBytes.{left_start, target_start, right_start, phones_start}
use Rattle.rule_bytes.proofs.well_shaped.Goals as goal

pub left_shaped-requires : goal.left_shaped-requires
left_shaped-requires c = let l = length-take-le max_context (drop left_start c.args.s.now) (simp length-drop (omega arith)) in omega arith

pub returns-then-not-left_shaped : goal.returns-then-not-left_shaped
unfolding shape
returns-then-not-left_shaped c = rw (sym c.left_shaped.ensures ∙ c.if-not-left_shaped.true)

pub length_shaped-requires : goal.length_shaped-requires
length_shaped-requires c = let l = length-take-le max_target (drop target_start c.args.s.now) (simp length-drop (omega arith)) in omega arith

pub returns-then-not-length_shaped : goal.returns-then-not-length_shaped
unfolding shape
returns-then-not-length_shaped c = rw (sym c.left_shaped.ensures ∙ c.if-not-left_shaped.false, sym c.length_shaped.ensures ∙ c.if-not-length_shaped.true)

pub right_shaped-requires : goal.right_shaped-requires
right_shaped-requires c = let l = length-take-le max_context (drop right_start c.args.s.now) (simp length-drop (omega arith)) in omega arith

pub returns-then-not-right_shaped : goal.returns-then-not-right_shaped
unfolding shape
returns-then-not-right_shaped c = rw (sym c.left_shaped.ensures ∙ c.if-not-left_shaped.false, sym c.length_shaped.ensures ∙ c.if-not-length_shaped.false, sym c.right_shaped.ensures ∙ c.if-not-right_shaped.true)

pub length_shaped-requires-2 : goal.length_shaped-requires-2
length_shaped-requires-2 c = let l = length-take-le max_phones (drop phones_start c.args.s.now) (simp length-drop (omega arith)) in omega arith

pub returns : goal.returns
unfolding shape
returns c = rw (sym c.left_shaped.ensures ∙ c.if-not-left_shaped.false, sym c.length_shaped.ensures ∙ c.if-not-length_shaped.false, sym c.right_shaped.ensures ∙ c.if-not-right_shaped.false) c.length_shaped-2.ensures
