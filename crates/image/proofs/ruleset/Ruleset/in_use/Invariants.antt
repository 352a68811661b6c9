-- `image::ruleset::Ruleset::in_use` meets its contract: the rules are looked at in turn.
-- Assumes nothing.
use mathlib.Core.Path.{◌≡◌}
use lib.ListN.{drop}
use Rattle.classes.specs.Setting.{list_uses}
use Rattle.image.specs.Image.{entries_of}
use Rattle.image.proofs.ruleset.Ruleset.in_use.Given as goal

abbrev pub invariant-loop-i : goal.invariant-loop-i
invariant-loop-i l = list_uses l.symbol (entries_of l.self.bytes.now) ≡ list_uses l.symbol (drop l.i (entries_of l.self.bytes.now))
