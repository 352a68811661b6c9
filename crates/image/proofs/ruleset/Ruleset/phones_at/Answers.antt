-- `image::ruleset::Ruleset::phones_at` meets its contract.
-- Assumes nothing.
use mathlib.Core.Path.{◌∙◌}
use Rattle.image.proofs.Entries.{phones_field}
use Rattle.image.proofs.ruleset.Ruleset.phones_at.Goals as goal

pub run_at-requires : goal.run_at-requires
run_at-requires c = let x = phones_field _ c.args.self.sound _ c.requires in (x.len-in, x.run_in)

pub returns : goal.returns
returns c = c.run_at.ensures ∙ (phones_field _ c.args.self.sound _ c.requires).is
