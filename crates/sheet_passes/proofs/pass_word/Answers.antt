-- What the list gives for the word, or its passes over its part of the frame.
-- Assumes nothing.
use native.Mathlib.Omega.{arith}
use lib.ListN.{length}
use borrow.Rule.Slice.PartMut.{mid_len}
use Rattle.rules.proofs.Memory.{put_tail}
use Rattle.speech.specs.Words.{word_at}
use Rattle.reading.proofs.WordReading.{part_frame, part_long, part_inside, part_bound}
use Rattle.passes.proofs.WordsPassed.{part_symbols}
use Rattle.sheet_passes.proofs.OneWord as W
use borrow.Author.Rules.{rules}
use Rattle.sheet_passes.proofs.pass_word.Goals as goal

pub returns-then-part-ne0 : goal.returns-then-part-ne0
returns-then-part-ne0 c = let a = c.args in
    W.shared-listed a.compiled.now.words.now a.compiled.now.left_states a.compiled.now.right_states a.fit a.list.now (word_at a.name.now a.from) a.from a.found.now a.left.now a.right.now c.find_word-part.ensures c.requires.4 (omega (arith, c.requires.3.inside, c.requires.1.sound.short)) a.tree.now a.nodes a.steps c.requires.5 (omega arith)

pub returns-then-not-fit : goal.returns-then-not-fit
returns-then-not-fit c = let a = c.args in
    W.shared-unfit a.compiled.now.words.now a.compiled.now.left_states a.compiled.now.right_states a.fit a.list.now (word_at a.name.now a.from) a.from a.found.now a.left.now a.right.now c.find_word-part.ensures c.requires.4 (omega (arith, c.requires.3.inside, c.requires.1.sound.short)) a.tree.now a.nodes a.steps (omega (arith, c.if-part-ne0.false)) (c.if-not-fit.true)

pub slice_bounds-pass_frame-end : goal.slice_bounds-pass_frame-end
slice_bounds-pass_frame-end c = let a = c.args in
    part_inside a.name.now a.frame.now c.requires.2 a.from a.end c.requires.3

pub pass_frame-requires : goal.pass_frame-requires
pass_frame-requires c = let a = c.args in
    let e = c.if-not-fit.false in
    let q = c.requires.0 e in
    let l = part_long a.name.now a.frame.now c.requires.2 a.from a.end c.requires.3 in
    let b = part_bound a.name.now a.frame.now c.requires.2 a.from a.end c.requires.3 c.requires.1.sound in (
      q.right,
      q.room,
      omega arith,
      omega arith,
      part_symbols a.name.now a.frame.now c.requires.2 a.from a.end c.requires.3 c.requires.1.sound,
      omega (arith, mid_len a.from (length a.left.now) a.left.now (omega arith), c.requires.4.left),
      omega (arith, mid_len a.from (length a.right.now) a.right.now (omega arith), c.requires.4.right),
      c.requires.5.tree e,
      record { few = omega (arith, l, c.requires.6.few); words = omega (arith, l, c.requires.6.words) },
      c.requires.7,
    )

pub returns : goal.returns
returns c = let a = c.args in
    let o = c.pass_frame in
    W.shared-passes a.compiled.now.words.now a.compiled.now.left_states a.compiled.now.right_states a.fit a.list.now (word_at a.name.now a.from) a.from a.found.now a.left.now a.right.now c.find_word-part.ensures c.requires.4 (omega (arith, c.requires.3.inside, c.requires.1.sound.short)) a.tree.now a.nodes a.steps (omega (arith, c.if-part-ne0.false)) (c.if-not-fit.false) (part_frame a.name.now a.frame.now c.requires.2 a.from a.end c.requires.3)
    (put_tail a.from a.left.now _) (put_tail a.from a.right.now _) (search rules) (search rules) o.ensures
