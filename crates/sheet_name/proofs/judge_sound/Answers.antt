-- A name on the list, or one that is not.
-- Assumes nothing.
use mathlib.Core.Path.{subst}
use Rattle.exceptions.specs.Calls.{EndsInList}
use Prim.Native.Nat.{ℕ}
use Rattle.std.specs.Prelude.{Option}
use Rattle.sheet_name.proofs.Settling as S
use Rattle.sheet_name.proofs.judge_sound.Goals as goal

pub judge_words-requires : goal.judge_words-requires
judge_words-requires c = let e = subst (λ (x : Option ℕ). EndsInList c.args.list.now c.args.name.now x) c.in-None.is c.end_state-ending.ensures in
    (c.requires.0, c.requires.1, record { known = c.requires.2; sound = c.requires.3; absent = e }, c.requires.4, c.requires.5, c.requires.6, c.requires.7, c.requires.8)

pub returns-in-Some : goal.returns-in-Some
returns-in-Some c = let a = c.args in
    let e = subst (λ (x : Option ℕ). EndsInList a.list.now a.name.now x) c.in-Some.is c.end_state-ending.ensures in
    S.sent-listed a.compiled.now.words.now a.compiled.now.sets.now a.compiled.now.left_states a.compiled.now.right_states a.fit a.image.now a.list.now a.name.now a.tree.now a.nodes a.steps c.requires.4 _ c.requires.3 e.2
