-- `host::pirrozketa_edits` meets its contract.
-- Assumes nothing.
use mathlib.Core.Path.{◌∙◌}
use native.Mathlib.Omega.{arith}
use Rattle.image.specs.Image.{edits_of}
use Rattle.host.proofs.Reports.{held_short, held_long}
use borrow.Author.Rules.{rules}
use Rattle.host.proofs.pirrozketa_edits.Goals as goal

pub returns-then-image-lt-SIZE : goal.returns-then-image-lt-SIZE
returns-then-image-lt-SIZE c = held_short edits_of c.args.image.now (omega arith)

pub returns : goal.returns
returns c = c.edit_count.ensures ∙ held_long edits_of c.args.image.now (omega arith)
