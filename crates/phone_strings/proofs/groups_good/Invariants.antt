-- `phone_strings::groups_good` meets its contract.
-- Assumes nothing.
use Rattle.minimality.proofs.Scan.{AllTo}
use Rattle.phone_strings.specs.Groups.{HoldsGroup}
use Rattle.phone_strings.proofs.groups_good.Given as goal

abbrev pub invariant-loop-k : goal.invariant-loop-k
invariant-loop-k l = AllTo (HoldsGroup l.words l.a l.n) l.k
