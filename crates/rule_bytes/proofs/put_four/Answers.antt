-- `rule_bytes::put_four` meets its contract: the runs one after the other.
-- Assumes nothing.
use native.Mathlib.Omega.{arith}
use Rattle.rule_bytes.proofs.Copies.{four_stored}
use Rattle.rule_bytes.proofs.put_four.Goals as goal

pub returns : goal.returns
returns c = four_stored c.args.s.now c.args.at (omega arith) c.args.a.now c.args.b.now c.args.c.now c.args.d.now _ _ _ _ c.put.ensures c.put-2.ensures c.put-3.ensures c.put-4.ensures
