-- `checklist::ruleset::Ruleset::newest` meets its contract: what it has come to is a rule's place.
-- Assumes nothing.
use Rattle.std.proofs.Common.{◌<◌}
use Rattle.checklist.proofs.ruleset.Ruleset.newest.Given as goal

abbrev pub invariant-loop-p : goal.invariant-loop-p
invariant-loop-p l = l.newest < l.n
