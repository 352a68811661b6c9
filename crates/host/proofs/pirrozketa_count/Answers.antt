-- `host::pirrozketa_count` meets its contract.
-- Assumes nothing.
use mathlib.Core.Path.{◌∙◌}
use native.Mathlib.Omega.{arith}
use Rattle.image.specs.Image.{count_of}
use Rattle.host.proofs.Reports.{held_short, held_long}
use borrow.Author.Rules.{rules}
use Rattle.host.proofs.pirrozketa_count.Goals as goal

pub returns-then-image-lt-SIZE : goal.returns-then-image-lt-SIZE
returns-then-image-lt-SIZE c = held_short count_of c.args.image.now (omega arith)

pub returns : goal.returns
returns c = c.rule_count.ensures.0 ∙ held_long count_of c.args.image.now (omega arith)
