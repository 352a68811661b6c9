-- `file_format::rule_in` meets its contract: the fields one after the other.
-- Assumes nothing.
use Prim.Native.Nat.{◌+◌}
use mathlib.Core.Path.{◌∙◌}
use native.Mathlib.Omega.{arith}
use Rattle.file_format.specs.Layout.{front_size}
use Rattle.file_format.proofs.Fields.{rule_held}
use Rattle.file_format.proofs.rule_in.Goals as goal

pub returns : goal.returns
returns c = let t = front_size + c.from-target_at.result in let r = t + c.from.result in let p = r + c.from-2.result in c.rule_from.ensures ∙ rule_held c.args.f.now c.requires t r p (p + c.from-3.result) (omega arith) (omega arith) (omega arith) (omega arith)
