-- `passes::left_pass` meets its contract, by the loop invariant `Passing`: the states of positions 1 to i are remembered.
-- Assumes nothing.
use Prim.Native.Nat.{◌+◌, ◌-◌, ◌≤◌, ◌<◌}
use native.Mathlib.Omega.{arith}
use lib.ListN.{length}
use Rattle.passes.specs.Passes.{rows_at, left_on}
use Rattle.passes.proofs.Passing.{go_on, stop, finished, left_begin, left_state, left_steps}
use Rattle.speech.specs.Places.{frame_size}
use Rattle.passes.proofs.left_pass.Goals as goal

pub loop-i-init : goal.loop-i-init
loop-i-init c = let a = c.args in
    (omega arith, left_begin a.words.now a.rows a.count a.frame.now a.steps a.states.now (omega arith))

pub look_up-at-requires : goal.look_up-at-requires
look_up-at-requires c = let l = c.requires.5 c.loop-i.i (omega arith) in
    (omega arith, omega (arith, c.loop-i.invariant.0))

pub returns-then-count-from : goal.returns-then-count-from
returns-then-count-from c = let a = c.args in
    let k = c.loop-i in
    let r = c.look_up-at in
    let p = k.invariant.1 in
    let b : a.count ≤ r.result.state = omega (arith, c.from.ensures) in
    stop (left_on (rows_at a.words.now a.rows a.count) a.steps a.frame.now) a.count _ _ _ (k.i + 1) r.result.state
    (left_state a.words.now a.rows a.count a.frame.now a.steps k.at k.i p.here p.looked (omega arith) r.result r.ensures)
    (omega arith) (omega arith) b _

pub loop-i-preserved : goal.loop-i-preserved
loop-i-preserved c = let a = c.args in
    let k = c.loop-i in
    let r = c.look_up-at in
    let p = k.invariant.1 in
    let b : r.result.state < a.count = omega (arith, c.from.ensures) in (
      omega (arith, r.ensures.more, k.invariant.0),
      go_on (left_on (rows_at a.words.now a.rows a.count) a.steps a.frame.now) a.count p 1 (k.i + 1) r.result (k.i + 1)
          (left_state a.words.now a.rows a.count a.frame.now a.steps k.at k.i p.here p.looked (omega arith) r.result r.ensures)
          (left_steps a.words.now a.rows a.count a.frame.now a.steps k.at k.i p.here p.looked (omega arith) r.result r.ensures)
          b (omega arith) (λ j l m d. (omega arith, omega arith)),
    )

pub returns : goal.returns
returns c = let a = c.args in
    let k = c.loop-i in
    finished (left_on (rows_at a.words.now a.rows a.count) a.steps a.frame.now) a.count (length a.frame.now - 1) (length a.frame.now - 1) (a.steps + frame_size)
    k.invariant.1 (omega arith) (omega arith) (omega arith) (omega (arith, k.invariant.0))
