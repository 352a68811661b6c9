-- `passes::run_words` meets its contract: one word more at each turn.
-- Assumes nothing.
use mathlib.Core.Path.{refl}
use Rattle.std.specs.Prelude.{Some, None}
use Rattle.passes.specs.Passes.{memory}
use Rattle.passes.proofs.WordsPassed.{passed-begin, passed-word, passed-next, passed-bad, passed-end}
use native.Mathlib.Omega.{arith}
use Rattle.passes.proofs.run_words.Goals as goal

pub loop-from-init : goal.loop-from-init
loop-from-init c = let a = c.args in
    passed-begin a.compiled.now.words.now a.compiled.now.left_states a.compiled.now.right_states a.fit a.list.now a.name.now (memory a.found.now a.left.now a.right.now) c.requires.3

pub run_word-requires : goal.run_word-requires
run_word-requires c = let a = c.args in
    let p = c.requires in
    let k = c.loop-from in (
      p.0,
      p.1,
      p.2,
      passed-word a.compiled.now.words.now a.compiled.now.left_states a.compiled.now.right_states a.fit a.list.now a.name.now p.1.sound (memory k.found k.left k.right) k.steps k.from k.invariant (omega arith) _ c.word_end-end.ensures,
      omega (arith, k.invariant.few, k.invariant.near, p.1.sound.short),
      k.invariant.sized,
    )

pub returns-in_err-steps : goal.returns-in_err-steps
returns-in_err-steps c = let a = c.args in
    let k = c.loop-from in
    rw c.from_residual.ensures (passed-bad a.compiled.now.words.now a.compiled.now.left_states a.compiled.now.right_states a.fit a.list.now a.name.now c.requires.1.sound (memory k.found k.left k.right) k.steps k.from k.invariant (omega (arith, c.loop-from-test.true)) _ c.word_end-end.ensures
    _ None c.in_err-steps.ensures refl)

pub loop-from-preserved : goal.loop-from-preserved
loop-from-preserved c = let a = c.args in
    let k = c.loop-from in
    passed-next a.compiled.now.words.now a.compiled.now.left_states a.compiled.now.right_states a.fit a.list.now a.name.now c.requires.1.sound (memory k.found k.left k.right) k.steps k.from k.invariant (omega (arith, c.loop-from-test.true)) _ c.word_end-end.ensures
    _ (Some c.in_ok-steps.steps) c.in_ok-steps.ensures refl

pub returns : goal.returns
returns c = let a = c.args in
    let k = c.loop-from in
    passed-end a.compiled.now.words.now a.compiled.now.left_states a.compiled.now.right_states a.fit a.list.now a.name.now c.requires.1.sound (memory k.found k.left k.right) k.steps k.from k.invariant (omega arith)
