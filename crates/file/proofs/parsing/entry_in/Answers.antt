-- `file::parsing::entry_in` meets its contract.
-- Assumes nothing.
use native.Mathlib.Omega.{arith}
use Rattle.file.proofs.Parts.{rule_whole}
use Rattle.file.proofs.parsing.entry_in.Goals as goal

pub two_at-number-requires : goal.two_at-number-requires
two_at-number-requires c = omega (arith, rule_whole c.args.f.now c.requires)

pub rule_in-rule-requires : goal.rule_in-rule-requires
rule_in-rule-requires c = omega (arith, rule_whole c.args.f.now c.requires)

pub returns : goal.returns
returns c = rw (c.two_at-number.ensures, c.rule_in-rule.ensures)
