-- `passes::run_word` meets its contract: what the list gives for the word, or its passes over its part of the frame.
-- Assumes nothing.
use lib.ListN.{length}
use borrow.Rule.Slice.PartMut.{mid_len}
use Rattle.rules.proofs.Memory.{put_tail}
use Rattle.speech.specs.Words.{word_at}
use Rattle.reading.proofs.WordReading.{part_frame, part_long, part_inside, part_bound}
use Rattle.passes.proofs.WordsPassed.{word-listed, word-unfit, word-passes, part_symbols}
use native.Mathlib.Omega.{arith}
use borrow.Author.Rules.{rules}
use Rattle.passes.proofs.run_word.Goals as goal

pub find_word-part-requires : goal.find_word-part-requires
find_word-part-requires c = let p = c.requires in
    (p.1, p.3.inside, p.3.ends)

pub returns-then-part-ne0 : goal.returns-then-part-ne0
returns-then-part-ne0 c = let a = c.args in
    let part = c.find_word-part in
    word-listed a.compiled.now.words.now a.compiled.now.left_states a.compiled.now.right_states a.fit a.list.now (word_at a.name.now a.from) a.from a.steps a.found.now a.left.now a.right.now
    part.result part.ensures c.requires.5 (omega (arith, c.requires.1.sound.short)) (omega arith)

pub returns-then-not-fit : goal.returns-then-not-fit
returns-then-not-fit c = let a = c.args in
    let part = c.find_word-part in
    word-unfit a.compiled.now.words.now a.compiled.now.left_states a.compiled.now.right_states a.fit a.list.now (word_at a.name.now a.from) a.from a.steps a.found.now a.left.now a.right.now
    part.result part.ensures c.requires.5 (omega (arith, c.requires.1.sound.short)) (omega (arith, c.if-part-ne0.false)) (c.if-not-fit.true)

pub overflow_add-end : goal.overflow_add-end
overflow_add-end c = let a = c.args in
    omega (arith, part_inside a.name.now a.frame.now c.requires.2 a.from a.end c.requires.3)

pub slice_bounds-run_passes-end : goal.slice_bounds-run_passes-end
slice_bounds-run_passes-end c = let a = c.args in
    part_inside a.name.now a.frame.now c.requires.2 a.from a.end c.requires.3

pub run_passes-requires : goal.run_passes-requires
run_passes-requires c = let a = c.args in
    let p = c.requires in
    let q = p.0 (c.if-not-fit.false) in
    let l = part_long a.name.now a.frame.now c.requires.2 a.from a.end c.requires.3 in
    let b = part_bound a.name.now a.frame.now c.requires.2 a.from a.end c.requires.3 p.1.sound in (
      q.left,
      q.right,
      q.room,
      omega arith,
      omega arith,
      p.4,
      part_symbols a.name.now a.frame.now c.requires.2 a.from a.end c.requires.3 p.1.sound,
      omega (arith, mid_len a.from (length a.left.now) a.left.now (omega arith), p.5.left),
      omega (arith, mid_len a.from (length a.right.now) a.right.now (omega arith), p.5.right),
    )

pub returns : goal.returns
returns c = let a = c.args in
    let part = c.find_word-part in
    let both = c.run_passes in
    word-passes a.compiled.now.words.now a.compiled.now.left_states a.compiled.now.right_states a.fit a.list.now (word_at a.name.now a.from) a.from a.steps a.found.now a.left.now a.right.now
    part.result part.ensures c.requires.5 (omega (arith, c.requires.1.sound.short)) (omega (arith, c.if-part-ne0.false)) (c.if-not-fit.false) _
    (part_frame a.name.now a.frame.now c.requires.2 a.from a.end c.requires.3) both.new.left both.new.right _ _
    (put_tail a.from a.left.now _) (put_tail a.from a.right.now _) (search rules) (search rules) _ both.ensures
