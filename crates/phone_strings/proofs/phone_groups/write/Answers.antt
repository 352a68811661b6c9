-- `phone_groups::write` meets its contract: the whole groups, then what is left of the last.
-- Assumes nothing.
use Rattle.states.proofs.Rows.{written_end}
use Rattle.phone_strings.proofs.Writing.{group_next}
use mathlib.Core.Path.{◌≡◌}
use Prim.Native.Nat.{◌+◌, ◌*◌, ◌/◌, ◌%◌}
use native.Mathlib.Omega.{arith}
use borrow.Author.Rules.{rules}
use Rattle.phone_strings.proofs.phone_groups.write.Goals as goal

pub returns-then-rest-eq0 : goal.returns-then-rest-eq0
returns-then-rest-eq0 c = written_end _ _ _ _ _ _ (let e : 3 * (c.args.count / 3) ≡ c.args.count = omega arith in e) c.put_groups.ensures

pub returns : goal.returns
returns c = group_next _ _ _ _ _ _ _ _ _ c.val-last.ensures.0 (omega arith) c.put_groups.ensures c.put_group.ensures _ (let e : 3 * (c.args.count / 3) + c.args.count % 3 ≡ c.args.count = omega arith in e)
