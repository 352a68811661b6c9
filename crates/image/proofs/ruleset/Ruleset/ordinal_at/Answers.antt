-- `image::ruleset::Ruleset::ordinal_at` meets its contract.
-- Assumes nothing.
use mathlib.Core.Path.{◌∙◌}
use native.Mathlib.Omega.{arith}
use Rattle.image.proofs.Literals.{total_few, literal_is}
use Rattle.image.proofs.Tests.{valid_long}
use Rattle.image.proofs.ruleset.Ruleset.ordinal_at.Goals as goal

pub two_at-requires : goal.two_at-requires
two_at-requires c = omega (arith, total_few _ c.args.self.sound, valid_long _ c.args.self.sound)

pub returns : goal.returns
returns c = c.from.ensures ∙ (c.two_at.ensures ∙ (literal_is c.args.self.bytes.now c.args.self.sound c.args.p c.requires).entry.ordinal)
