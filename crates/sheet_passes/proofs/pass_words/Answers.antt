-- One word more at each turn.
-- Assumes nothing.
use native.Mathlib.Omega.{arith}
use Rattle.passes.specs.Passes.{memory}
use Rattle.sheet_passes.proofs.InTurn as T
use Rattle.sheet_passes.proofs.pass_words.Goals as goal

pub loop-from-init : goal.loop-from-init
loop-from-init c = let a = c.args in
    T.shared-begin a.compiled.now.words.now a.compiled.now.left_states a.compiled.now.right_states a.fit a.list.now a.name.now a.tree.now a.nodes a.steps (memory a.found.now a.left.now a.right.now) c.requires.3 c.requires.4

pub pass_word-requires : goal.pass_word-requires
pass_word-requires c = let k = c.loop-from in (
  c.requires.0,
  c.requires.1,
  c.requires.2,
  T.word-here k.invariant c.requires.1.sound c.requires.4 (omega arith) c.word_end-end.ensures,
  T.sized-here k.invariant c.requires.1.sound c.requires.4,
  T.holds-here k.invariant c.requires.1.sound c.requires.4,
  T.room-here k.invariant c.requires.1.sound c.requires.4 (omega arith) c.word_end-end.ensures c.requires.5,
  T.steps-few k.invariant c.requires.1.sound c.requires.4 c.requires.6,
)

pub returns-in_err-p : goal.returns-in_err-p
returns-in_err-p c = let k = c.loop-from in
    rw c.from_residual.ensures (T.name-bad k.invariant c.requires.1.sound c.requires.4 (omega (arith, c.loop-from-test.true)) c.word_end-end.ensures c.in_err-p.ensures)

pub loop-from-preserved : goal.loop-from-preserved
loop-from-preserved c = let k = c.loop-from in
    T.name-next k.invariant c.requires.1.sound c.requires.4 (omega (arith, c.loop-from-test.true)) c.word_end-end.ensures c.in_ok-p.ensures

pub returns : goal.returns
returns c = let k = c.loop-from in
    T.name-end k.invariant c.requires.1.sound c.requires.4 (omega arith)
