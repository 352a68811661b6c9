-- `reading::words::boundary_or` meets its contract: # for a separator, else the byte.
-- Assumes nothing.
use mathlib.Core.Bool.{Bool, cond}
use mathlib.Core.Path.{sym, ap}
use borrow.Author.Tests.{eq-eqb, ne_eqb}
use Rattle.reading.proofs.words.boundary_or.Goals as goal

pub returns-then-c-eq-SEPARATOR : goal.returns-then-c-eq-SEPARATOR
returns-then-c-eq-SEPARATOR c = sym (ap (λ (t : Bool). cond t 0 c.args.c) (eq-eqb _ _ c.if-c-eq-SEPARATOR.true))

pub returns-else-c-eq-SEPARATOR : goal.returns-else-c-eq-SEPARATOR
returns-else-c-eq-SEPARATOR c = sym (ap (λ (t : Bool). cond t 0 c.args.c) (ne_eqb _ _ c.if-c-eq-SEPARATOR.false))
