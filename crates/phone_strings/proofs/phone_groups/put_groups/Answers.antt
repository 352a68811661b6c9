-- `phone_groups::put_groups` meets its contract: after k groups their 3 k bytes are written.
-- Assumes nothing.
use Rattle.automaton.specs.Automaton.{val_of}
use Rattle.states.proofs.Parts.{slice_at}
use Rattle.phone_strings.proofs.Writing.{group_next}
use mathlib.Core.Path.{ap, ◌∙◌}
use Prim.Native.Nat.{◌+◌}
use native.Mathlib.Omega.{arith}
use Rattle.phone_strings.proofs.phone_groups.put_groups.Goals as goal

pub loop-k-preserved : goal.loop-k-preserved
loop-k-preserved c =
    let s = slice_at c.args.words.now c.args.from (c.args.from + c.args.whole) c.loop-k.k (omega arith) c.loop-k-test.true in
    group_next _ _ _ _ _ _ _ _ _ (c.val.ensures.0 ∙ ap val_of s.0) (omega arith) c.loop-k.invariant c.put_group.ensures _ (omega arith)
