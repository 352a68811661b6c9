-- The loop over the patterns, from the empty string alone.
-- Assumes nothing.
use mathlib.Core.Path.{ap, ◌∙◌}
use Prim.Native.Nat.{◌+◌, ◌≤◌}
use mathlib.Core.Path.{◌≡◌}
use native.Mathlib.Omega.{arith}
use Rattle.side.specs.Patterns.{state_count}
use Rattle.side.proofs.Inserting.{patterns_less}
use Rattle.count.proofs.Counting as C
use Rattle.count.proofs.count_all.Goals as goal

pub loop-i-init : goal.loop-i-init
loop-i-init c = C.first _ _ _ _ _ c.requires.2

pub count_one-count-requires : goal.count_one-count-requires
count_one-count-requires c = let l = c.loop-i in
    let h : l.i + 1 ≤ c.args.n = omega (arith, c.loop-i-test.true) in (
      patterns_less c.args.pats.now c.args.lens.now (l.i + 1) c.args.n h c.requires.0,
      C.room_next _ _ _ _ _ _ _ _ _ _ _ l.invariant c.requires.1 (omega arith),
      C.again _ _ c.args.n _ _ _ _ _ _ _ _ l.invariant,
    )

pub loop-i-preserved : goal.loop-i-preserved
loop-i-preserved c = C.another _ _ c.args.n _ _ _ _ _ _ _ _ c.loop-i.invariant _ _ _ _ c.count_one-count.ensures

pub returns : goal.returns
returns c = c.loop-i.invariant.count ∙ ap (state_count c.args.pats.now c.args.lens.now) (let e : c.loop-i.i ≡ c.args.n = omega arith in e)
