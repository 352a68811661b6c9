-- `speech::numbers_fit` meets its contract: a place for each part is enough, or the rules are counted.
-- Assumes nothing.
use mathlib.Core.Path.{sym, ◌∙◌}
use native.Mathlib.Omega.{arith}
use borrow.Author.Tests.{le-leb}
use Rattle.speech.proofs.Counted.{rules_most}
use Rattle.speech.proofs.numbers_fit.Goals as goal

pub returns-then-parts-room : goal.returns-then-parts-room
returns-then-parts-room c = let a = c.args in
    le-leb _ a.room (omega arith) ∙ sym (le-leb _ a.room (omega (arith, rules_most a.parts.now)))
