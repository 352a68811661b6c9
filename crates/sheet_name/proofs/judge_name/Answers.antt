-- A name that is refused with 2 or 1, or a sound one.
-- Assumes nothing.
use mathlib.Core.Path.{subst}
use Prim.Native.Nat.{ℕ, ◌+◌}
use Rattle.prefix_tree.specs.Tree.{Room}
use Rattle.speech.proofs.Call.{found_refused, found_sound}
use Rattle.sheet_name.proofs.Settling as S
use Rattle.sheet_name.proofs.judge_name.Goals as goal

pub judge_sound-requires : goal.judge_sound-requires
judge_sound-requires c = let a = c.args in
    let s = found_sound a.name.now _ c.judge_name-judged.ensures c.in-Ok.is in
    (c.requires.0, c.requires.1, c.requires.2, s, c.requires.3, subst (λ (k : ℕ). Room a.tree.now (a.nodes + k)) (S.room-short a.name.now s.short) c.requires.4, c.requires.5, c.requires.6, c.requires.7)

pub returns-in-Err : goal.returns-in-Err
returns-in-Err c = let a = c.args in
    S.sent-none a.compiled.now.words.now a.compiled.now.sets.now a.compiled.now.left_states a.compiled.now.right_states a.fit a.image.now a.list.now a.name.now a.tree.now a.nodes a.steps c.requires.3 _ _ _ (found_refused a.name.now _ c.judge_name-judged.ensures _ c.in-Err.is)
