-- `image::number_at` meets its contract.
-- Assumes nothing.
use mathlib.Core.Path.{◌∙◌}
use Rattle.image.specs.Image.{slot_start}
use Rattle.image.proofs.Scan.{number_is}
use Rattle.image.proofs.number_at.Goals as goal

pub returns : goal.returns
returns c = c.two_at.ensures ∙ number_is c.args.image.now (slot_start c.args.place)
