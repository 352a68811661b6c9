-- `phone_groups::put_group` meets its contract: byte after byte.
-- Assumes nothing.
use Rattle.phone_strings.proofs.Writing.{one_byte, two_bytes, three_bytes}
use Rattle.states.proofs.Rows.{written_end}
use mathlib.Core.Path.{◌≡◌, sym}
use lib.ListN.{length-set}
use native.Mathlib.Omega.{arith}
use borrow.Author.Rules.{rules}
use Rattle.phone_strings.proofs.phone_groups.put_group.Goals as goal

pub returns-then-size-eq1 : goal.returns-then-size-eq1
returns-then-size-eq1 c = written_end _ _ _ _ _ _ (sym c.if-size-eq1.true) (one_byte _ _ _ (omega arith))

pub bounds-out-at-2 : goal.bounds-out-at-2
bounds-out-at-2 c = simp length-set (omega arith)

pub returns-then-size-eq2 : goal.returns-then-size-eq2
returns-then-size-eq2 c = written_end _ _ _ _ _ _ (sym c.if-size-eq2.true) (two_bytes _ _ _ (omega arith))

pub bounds-out-at-3 : goal.bounds-out-at-3
bounds-out-at-3 c = simp length-set (omega arith)

pub returns : goal.returns
returns c = written_end _ _ _ _ _ _ (let e : 3 ≡ c.args.size = omega arith in e) (three_bytes _ _ _ (omega arith))
