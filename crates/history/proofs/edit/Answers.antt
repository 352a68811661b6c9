-- `history::edit` meets its contract.
-- Assumes nothing.
use Prim.Native.Nat.{◌%◌}
use mathlib.Core.Path.{sym, ap, ◌∙◌}
use native.Mathlib.Omega.{arith}
use Rattle.edits.specs.Edits.{edited}
use Rattle.history.proofs.Runs.{edit_add, edit_drop, edit_move, edit_class}
use Rattle.history.proofs.edit.Goals as goal

pub returns-in-0 : goal.returns-in-0
returns-in-0 c = c.add_rule.ensures ∙ ap (edited c.args.image.now) (edit_add c.args.letters.now c.args.code.now _ _ (sym c.word_at-kind.ensures ∙ c.in-0.is) c.coded_rule.ensures c.word_at-place.ensures)

pub returns-in-1 : goal.returns-in-1
returns-in-1 c = let k = sym c.word_at-kind.ensures ∙ c.in-1.is in
    c.drop_rule.ensures ∙ ap (edited c.args.image.now) (edit_drop c.args.letters.now c.args.code.now (λ e. omega (arith, k, e)) _ k (ap (λ k. k % 65536) c.word_at.ensures))

pub returns-in-2 : goal.returns-in-2
returns-in-2 c = let k = sym c.word_at-kind.ensures ∙ c.in-2.is in
    c.move_rule.ensures ∙ ap (edited c.args.image.now) (edit_move c.args.letters.now c.args.code.now (λ e. omega (arith, k, e)) (λ e. omega (arith, k, e)) _ _ k (ap (λ k. k % 65536) c.word_at.ensures) c.word_at-place.ensures)

pub returns-in_default : goal.returns-in_default
returns-in_default c = let k = c.word_at-kind.ensures in
    c.class_edit.ensures ∙ ap (edited c.args.image.now) (edit_class c.args.letters.now c.args.code.now (λ e. omega (arith, k, e)) (λ e. omega (arith, k, e)) (λ e. omega (arith, k, e)))
