-- `host::pirrozketa_last` meets its contract.
-- Assumes nothing.
use mathlib.Core.Path.{◌∙◌}
use native.Mathlib.Omega.{arith}
use Rattle.image.specs.Image.{last_of}
use Rattle.host.proofs.Reports.{held_short, held_long}
use borrow.Author.Rules.{rules}
use Rattle.host.proofs.pirrozketa_last.Goals as goal

pub returns-then-image-lt-SIZE : goal.returns-then-image-lt-SIZE
returns-then-image-lt-SIZE c = held_short last_of c.args.image.now (omega arith)

pub returns : goal.returns
returns c = c.last_issued.ensures ∙ held_long last_of c.args.image.now (omega arith)
