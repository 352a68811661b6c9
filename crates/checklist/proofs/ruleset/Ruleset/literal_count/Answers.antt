-- `checklist::ruleset::Ruleset::literal_count` meets its contract: a ruleset has at most 512 literal rules.
-- Assumes nothing.
use Rattle.std.proofs.Common.{arith}
use Rattle.image.proofs.Literals.{total_few}
use Rattle.checklist.proofs.ruleset.Ruleset.literal_count.Goals as goal

pub returns : goal.returns
returns c = (c.literal_total.ensures, omega (arith, c.literal_total.ensures, total_few _ c.args.self.now.image.sound))
