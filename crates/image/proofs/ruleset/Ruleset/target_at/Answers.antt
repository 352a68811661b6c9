-- `image::ruleset::Ruleset::target_at` meets its contract.
-- Assumes nothing.
use mathlib.Core.Path.{◌∙◌}
use Rattle.image.proofs.Entries.{target_field}
use Rattle.image.proofs.ruleset.Ruleset.target_at.Goals as goal

pub run_at-requires : goal.run_at-requires
run_at-requires c = let x = target_field _ c.args.self.sound _ c.requires in (x.len-in, x.run_in)

pub returns : goal.returns
returns c = c.run_at.ensures ∙ (target_field _ c.args.self.sound _ c.requires).is
