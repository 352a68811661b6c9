-- Both passes over a frame, from the contracts of the two.
-- Assumes nothing.
use native.Mathlib.Omega.{arith}
use Rattle.sheet_passes.proofs.Frames as F
use borrow.Author.Rules.{rules}
use Rattle.sheet_passes.proofs.pass_frame.Goals as goal

pub returns-in_err-first : goal.returns-in_err-first
returns-in_err-first c = let a = c.args in
    rw c.from_residual.ensures (F.frame-bad a.compiled.now.words.now a.compiled.now.left_states a.compiled.now.right_states a.frame.now c.requires.2 c.in_err-first.ensures)

pub right_pass-requires : goal.right_pass-requires
right_pass-requires c = let g = c.in_ok-first.ensures.grown in
    (omega (arith, c.requires.1), c.requires.0, c.requires.2, c.requires.3, omega (arith, g.steps-are, g.few, c.requires.3, c.requires.9), c.requires.4, c.requires.6)

pub returns-in_err-steps : goal.returns-in_err-steps
returns-in_err-steps c = let a = c.args in
    rw c.from_residual-in_err-steps.ensures (F.frame-right_bad a.compiled.now.words.now a.compiled.now.left_states a.compiled.now.right_states a.frame.now c.requires.2 c.in_ok-first.ensures (search rules) c.in_err-steps.ensures)

pub returns : goal.returns
returns c = let a = c.args in
    F.frame-good a.compiled.now.words.now a.compiled.now.left_states a.compiled.now.right_states a.frame.now c.requires.2 c.in_ok-first.ensures (search rules) c.in_ok-steps.ensures
