-- `rules::judge_name` meets its contract: the bytes from i on decide.
-- Assumes nothing.
use mathlib.Core.Path.{◌≡◌}
use lib.ListN.{drop}
use Rattle.rules.specs.Names.{judged_bytes, judged_name}
use Rattle.rules.proofs.judge_name.Given as goal

abbrev pub invariant-loop-i : goal.invariant-loop-i
invariant-loop-i l = judged_name l.name ≡ judged_bytes l.i (drop l.i l.name)
