-- `rule_bytes::put_rule` meets its contract: the lengths, then the fields.
-- Assumes nothing.
use mathlib.Core.Path.{◌≡◌}
use native.Mathlib.Omega.{arith}
use lib.ListN.{length}
use Rattle.rules.specs.Limits.{max_context, max_target, max_phones}
use Rattle.rule_bytes.proofs.Copies.{rule_stored}
use borrow.Author.Rules.{rules}
use Rattle.rule_bytes.proofs.put_rule.Goals as goal

pub put_four-requires : goal.put_four-requires
put_four-requires c = let a : length c.args.rule.left ≡ max_context = search rules in
    let b : length c.args.rule.target ≡ max_target = search rules in
    let d : length c.args.rule.right ≡ max_context = search rules in
    let e : length c.args.rule.phones ≡ max_phones = search rules in
    omega arith

pub returns : goal.returns
returns c = rule_stored c.args.s.now c.args.at (omega arith) c.args.rule _ _ c.put.ensures c.put_four.ensures
