-- `reading::words::in_name` meets its contract, case by case of how reading ended.
-- Assumes nothing.
use mathlib.Core.Path.{sym, ap, subst}
use native.Mathlib.Omega.{arith}
use borrow.Author.Rules.{rules}
use Rattle.speech.specs.Places.{EndsBy, ended_in}
use Rattle.reading.proofs.words.in_name.Goals as goal

pub overflow_add-result : goal.overflow_add-result
overflow_add-result c = omega (arith, c.requires.0, subst (EndsBy 1000) c.in-Ok.is c.requires.2)
