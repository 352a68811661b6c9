-- `passes::run_passes` meets its contract, from those of the two passes.
-- Assumes nothing.
use Prim.Native.Nat.{ℕ, suc, ◌+◌, ◌-◌, ◌≤◌}
use mathlib.Core.Path.{◌≡◌, refl, subst}
use Rattle.std.specs.Prelude.{Some, None}
use native.Mathlib.Omega.{arith}
use lib.ListN.{length}
use Rattle.passes.specs.Passes.{rows_at, left_on, right_on, Passed}
use Rattle.passes.proofs.Both.{both_bad, both_good}
use Rattle.tables.specs.Words.{head_words, right_rows}
use Rattle.speech.specs.Places.{frame_size}
use Rattle.passes.proofs.run_passes.Goals as goal

shorter : (k : ℕ) → 2 ≤ k → k - 1 ≡ suc (k - 2)
shorter k h = omega arith

pub returns-in_err-steps : goal.returns-in_err-steps
returns-in_err-steps c = let a = c.args in
    rw c.from_residual.ensures (both_bad a.compiled.now.words.now a.compiled.now.left_states a.compiled.now.right_states a.frame.now (length a.frame.now - 2) a.steps c.left_pass.new.states a.right.now None
    (subst (λ (n : ℕ). Passed (left_on (rows_at a.compiled.now.words.now head_words a.compiled.now.left_states) a.steps a.frame.now) a.compiled.now.left_states n n (a.steps + frame_size) c.left_pass.new.states None) (shorter (length a.frame.now) c.requires.3) c.in_err-steps.ensures)
    refl)

pub right_pass-requires : goal.right_pass-requires
right_pass-requires c = let p = c.requires in
    (omega arith, p.1, p.3, p.4, omega (arith, p.5, c.in_ok-steps.ensures.few refl), p.6, p.8)

pub returns : goal.returns
returns c = let a = c.args in
    let one = c.in_ok-steps in
    let two = c.right_pass in
    both_good a.compiled.now.words.now a.compiled.now.left_states a.compiled.now.right_states a.frame.now (length a.frame.now - 2) a.steps c.left_pass.new.states two.new.states (Some one.steps)
    (subst (λ (n : ℕ). Passed (left_on (rows_at a.compiled.now.words.now head_words a.compiled.now.left_states) a.steps a.frame.now) a.compiled.now.left_states n n (a.steps + frame_size) c.left_pass.new.states (Some one.steps)) (shorter (length a.frame.now) c.requires.3) one.ensures)
    refl two.result
    (subst (λ (n : ℕ). Passed (right_on (rows_at a.compiled.now.words.now (right_rows a.compiled.now.left_states) a.compiled.now.right_states) one.steps a.frame.now) a.compiled.now.right_states n 1 (one.steps + frame_size) two.new.states two.result)
    (shorter (length a.frame.now) c.requires.3) two.ensures)
