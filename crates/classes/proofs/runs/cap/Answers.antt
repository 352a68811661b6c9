-- `classes::runs::cap` meets its contract.
-- Assumes nothing.
use native.Mathlib.Omega.{arith}
use Rattle.classes.proofs.Scan.{cap_low, cap_high}
use Rattle.classes.proofs.runs.cap.Goals as goal

pub returns-then-n-le-MAX_RULES : goal.returns-then-n-le-MAX_RULES
returns-then-n-le-MAX_RULES c = (cap_low _ c.if-n-le-MAX_RULES.true, omega arith)

pub returns : goal.returns
returns c = (cap_high _ c.if-n-le-MAX_RULES.false, omega arith)
