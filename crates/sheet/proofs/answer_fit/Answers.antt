-- The names of a sheet judged, then answered.
-- Assumes nothing.
use mathlib.Core.Path.{refl}
use native.Mathlib.Omega.{arith}
use Rattle.sheet.proofs.Answered as A
use Rattle.sheet.proofs.answer_fit.Goals as goal

pub judge_sheet-judged-requires : goal.judge_sheet-judged-requires
judge_sheet-judged-requires c = let g = c.requires.1 in
    (c.requires.0, g.sound, λ _. g.listed, g.root, omega (arith, g.tree-room), g.kept-room, g.few, omega (arith, g.few), omega (arith, g.few), record { found = refl; left = refl; right = refl })

pub returns-in-Err : goal.returns-in-Err
returns-in-Err c = let a = c.args in
    A.sheet-refused a.compiled.now.words.now a.compiled.now.sets.now a.compiled.now.left_states a.compiled.now.right_states a.fit a.image.now a.list.now a.sheet.now a.limit _ _ _ _ _ _ _ _ c.judge_sheet-judged.ensures c.requires.1.sound c.requires.1.listed a.phones.now a.numbers.now a.replies.now _ c.in-Err.is _ c.refused.ensures

pub answer_sheet-names-requires : goal.answer_sheet-names-requires
answer_sheet-names-requires c = let a = c.args in
    let g = c.requires.1 in
    let s = c.judge_sheet-judged.ensures in (
      g.sound,
      g.listed,
      omega (arith, g.few, s.ends-sized),
      omega (arith, g.few, s.starts-sized),
      g.replies-room,
      A.some-kept a.compiled.now.words.now a.compiled.now.sets.now a.compiled.now.left_states a.compiled.now.right_states a.fit a.image.now a.list.now a.sheet.now a.limit _ _ _ _ _ _ _ _ c.judge_sheet-judged.ensures c.requires.1.sound c.requires.1.listed a.phones.now a.numbers.now a.replies.now _ c.in-Ok.is,
    )

pub returns : goal.returns
returns c = let a = c.args in
    A.sheet-answered a.compiled.now.words.now a.compiled.now.sets.now a.compiled.now.left_states a.compiled.now.right_states a.fit a.image.now a.list.now a.sheet.now a.limit _ _ _ _ _ _ _ _ c.judge_sheet-judged.ensures c.requires.1.sound c.requires.1.listed a.phones.now a.numbers.now a.replies.now _ c.in-Ok.is _ _ _ _ c.answer_sheet-names.ensures
