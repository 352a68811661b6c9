-- `walk::walk_tables` meets its contract: whether the lengths fit and the edit count is the ruleset's, then the walk.
-- Assumes nothing.
use Prim.Native.Nat.{ℕ}
use native.Mathlib.Omega.{arith}
use mathlib.Core.Bool.{not, ◌&&◌}
use mathlib.Core.Path.{sym, ap, ◌∙◌}
use lib.Dec.{eqb}
use Rattle.image.proofs.Tests.{valid_long}
use Rattle.tables.specs.Words.{edits_in}
use Rattle.walk.proofs.Walked.{fit_true, tests_fit}
use Rattle.walk.proofs.walk_tables.Goals as goal

pub edit_count-requires : goal.edit_count-requires
edit_count-requires c = valid_long c.args.image.now c.requires.0

pub other_count-stale-requires : goal.other_count-stale-requires
other_count-stale-requires c = λ e.
    let f = fit_true c.args.compiled.now.words.now c.args.compiled.now.sets.now c.args.compiled.now.left_states c.args.compiled.now.right_states (sym c.lengths_fit-long.ensures ∙ e) in
    omega (arith, f.rows)

pub walk_sound-requires : goal.walk_sound-requires
walk_sound-requires c = (tests_fit c.args.compiled.now.words.now c.args.compiled.now.sets.now c.args.compiled.now.left_states c.args.compiled.now.right_states _ _ _ _ c.lengths_fit-long.ensures (c.other_count-stale.ensures ∙ ap (λ (e : ℕ). c.lengths_fit-long.result && not (eqb (edits_in c.args.compiled.now.words.now) e)) c.edit_count.ensures) c.can_pass-fit.ensures, c.requires.0, c.requires.1)
