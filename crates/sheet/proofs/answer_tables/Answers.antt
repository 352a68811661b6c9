-- The tables judged once, then the names.
-- Assumes nothing.
use mathlib.Core.Bool.{not, ◌&&◌}
use mathlib.Core.Path.{sym, ap, ◌∙◌}
use Prim.Native.Nat.{ℕ}
use native.Mathlib.Omega.{arith}
use lib.Dec.{eqb}
use Rattle.image.proofs.Tests.{valid_long}
use Rattle.tables.specs.Words.{edits_in}
use Rattle.walk.proofs.Walked.{fit_true, tests_fit}
use Rattle.sheet.proofs.answer_tables.Goals as goal

pub edit_count-requires : goal.edit_count-requires
edit_count-requires c = valid_long c.args.image.now c.requires.sound

pub other_count-stale-requires : goal.other_count-stale-requires
other_count-stale-requires c = λ e.
    let a = c.args in
    omega (arith, (fit_true a.compiled.now.words.now a.compiled.now.sets.now a.compiled.now.left_states a.compiled.now.right_states (sym c.lengths_fit-long.ensures ∙ e)).rows)

pub answer_fit-requires : goal.answer_fit-requires
answer_fit-requires c = let a = c.args in
    let long = c.lengths_fit-long in
    let other = c.other_count-stale.ensures ∙ ap (λ (e : ℕ). long.result && not (eqb (edits_in a.compiled.now.words.now) e)) c.edit_count.ensures in
    (tests_fit a.compiled.now.words.now a.compiled.now.sets.now a.compiled.now.left_states a.compiled.now.right_states _ _ _ _ long.ensures other c.can_pass-fit.ensures, c.requires)
