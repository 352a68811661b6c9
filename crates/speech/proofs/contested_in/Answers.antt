-- `speech::contested_in` meets its contract: two or more are from twice 2^16 on.
-- Assumes nothing.
use Prim.Native.Nat.{◌<◌, ◌≤◌}
use native.Mathlib.Omega.{arith}
use borrow.Author.Tests.{lt-ltb, le-ltb}
use borrow.Author.Rules.{rules}
use Rattle.speech.specs.Places.{fitting_in}
use Rattle.speech.proofs.contested_in.Goals as goal

pub returns-then-part : goal.returns-then-part
returns-then-part c = let h : 1 < fitting_in c.args.part = omega (arith, c.if-part.true) in rw (lt-ltb 1 (fitting_in c.args.part) h)

pub returns-else-part : goal.returns-else-part
returns-else-part c = let h : fitting_in c.args.part ≤ 1 = omega (arith, c.if-part.false) in rw (le-ltb 1 (fitting_in c.args.part) h)
