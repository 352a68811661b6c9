-- `states::skip` meets its contract.
-- Assumes nothing.
use mathlib.Core.Path.{sym, ◌∙◌}
use Rattle.states.proofs.Parts.{skipped_end, skipped_other, skipped_same}
use native.Mathlib.Omega.{arith}
use borrow.Author.Rules.{rules}
use Rattle.states.proofs.skip.Goals as goal

pub returns-then-e-i : goal.returns-then-e-i
returns-then-e-i c = skipped_end _ _ _ _ (omega arith) (omega arith)

pub returns-then-key-c : goal.returns-then-key-c
returns-then-key-c c = skipped_other _ _ _ _ (omega arith) (λ e. c.if-key-c.true (c.key.ensures ∙ e))

pub returns : goal.returns
returns c = skipped_same _ _ _ _ (omega arith) (sym c.key.ensures ∙ c.if-key-c.false)
