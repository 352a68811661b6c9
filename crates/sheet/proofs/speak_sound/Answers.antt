-- The memory judged, then the sheet.
-- Assumes nothing.
use mathlib.Core.List.{List}
use mathlib.Core.Path.{refl, sym, ap, ◌∙◌}
use Prim.Native.Nat.{◌+◌, ◌*◌}
use native.Mathlib.Omega.{arith}
use lib.Seq.{length-take-le}
use Rattle.rules.specs.Limits.{max_names}
use Rattle.exceptions.specs.Judging.{listing_of, says_of}
use Rattle.fitting.specs.Fitting.{Str}
use Rattle.speech.specs.Places.{frame_size}
use Rattle.tables.specs.Words.{compiled_from}
use Rattle.prefix_tree.specs.Tree.{node_size}
use Rattle.sheet.specs.Sheet.{alone, judged_sheet, names_through}
use Rattle.sheet.proofs.Zeros as Z
use Rattle.sheet.proofs.Whole as W
use Rattle.sheet.proofs.speak_sound.Goals as goal

pub overflow_add-nodes : goal.overflow_add-nodes
overflow_add-nodes c = let w = c.work_room-room in
    omega (arith, W.room-few c.args.sheet.now w.result w.ensures)

pub overflow_mul-nodes : goal.overflow_mul-nodes
overflow_mul-nodes c = let w = c.work_room-room in
    omega (arith, W.room-few c.args.sheet.now w.result w.ensures)

pub returns-then-not-first_are : goal.returns-then-not-first_are
returns-then-not-first_are c = let a = c.args in
    let w = c.work_room-room in
    let t = sym c.first_are.ensures ∙ c.if-not-first_are.true in
    record {
      answer = W.lacks-tree a.sheet.now a.tree.now a.kept.now a.replies.now a.phones.now a.numbers.now
          (names_through (compiled_from a.words.now a.sets.now) a.image.now a.list.now a.sheet.now max_names a.replies.now a.phones.now a.numbers.now)
          w.result a.limit w.ensures c.requires.2 t _ c.refused.ensures;
      tree = refl;
      kept = refl;
    }

pub overflow_add-parts : goal.overflow_add-parts
overflow_add-parts c = let w = c.work_room-room in
    omega (arith, W.room-few c.args.sheet.now w.result w.ensures)

pub returns-then-not-first_are-2 : goal.returns-then-not-first_are-2
returns-then-not-first_are-2 c = let a = c.args in
    let w = c.work_room-room in
    let t = sym c.first_are.ensures ∙ c.if-not-first_are.false in
    let k = sym c.first_are-2.ensures ∙ c.if-not-first_are-2.true in
    record {
      answer = W.lacks-kept a.sheet.now a.tree.now a.kept.now a.replies.now a.phones.now a.numbers.now
          (names_through (compiled_from a.words.now a.sets.now) a.image.now a.list.now a.sheet.now max_names a.replies.now a.phones.now a.numbers.now)
          w.result a.limit w.ensures c.requires.2 t k _ c.refused-then-not-first_are-2.ensures;
      tree = refl;
      kept = refl;
    }

pub overflow_mul-size : goal.overflow_mul-size
overflow_mul-size c = omega (arith, W.few-names c.args.sheet.now c.args.limit c.requires.2)

pub returns-then-replies-size : goal.returns-then-replies-size
returns-then-replies-size c = let a = c.args in
    let w = c.work_room-room in
    let t = sym c.first_are.ensures ∙ c.if-not-first_are.false in
    let k = sym c.first_are-2.ensures ∙ c.if-not-first_are-2.false in
    record {
      answer = W.lacks-replies a.sheet.now a.tree.now a.kept.now a.replies.now a.phones.now a.numbers.now
          (names_through (compiled_from a.words.now a.sets.now) a.image.now a.list.now a.sheet.now max_names a.replies.now a.phones.now a.numbers.now)
          w.result a.limit w.ensures c.requires.2 t k c.if-replies-size.true _ c.refused-then-replies-size.ensures;
      tree = refl;
      kept = refl;
    }

pub slice_bounds-answer_clear-end : goal.slice_bounds-answer_clear-end
slice_bounds-answer_clear-end c = Z.zeros-room _ c.args.tree.now (sym c.first_are.ensures ∙ c.if-not-first_are.false)

pub slice_bounds-answer_clear-end-2 : goal.slice_bounds-answer_clear-end-2
slice_bounds-answer_clear-end-2 c = sym (length-take-le _ c.args.tree.now (Z.zeros-room _ c.args.tree.now (sym c.first_are.ensures ∙ c.if-not-first_are.false)))

pub slice_bounds-answer_clear-end-3 : goal.slice_bounds-answer_clear-end-3
slice_bounds-answer_clear-end-3 c = Z.zeros-room _ c.args.kept.now (sym c.first_are-2.ensures ∙ c.if-not-first_are-2.false)

pub slice_bounds-answer_clear-end-4 : goal.slice_bounds-answer_clear-end-4
slice_bounds-answer_clear-end-4 c = sym (length-take-le _ c.args.kept.now (Z.zeros-room _ c.args.kept.now (sym c.first_are-2.ensures ∙ c.if-not-first_are-2.false)))

pub answer_clear-requires : goal.answer_clear-requires
answer_clear-requires c = let a = c.args in
    let w = c.work_room-room in
    let t = sym c.first_are.ensures ∙ c.if-not-first_are.false in
    let k = sym c.first_are-2.ensures ∙ c.if-not-first_are-2.false in (
      W.ready a.image.now a.list.now a.sheet.now a.replies.now a.tree.now a.kept.now w.result a.limit w.ensures c.requires.2 c.requires.0 c.requires.1 c.if-replies-size.false t k,
      Z.zeros-all (node_size * (w.result + 1)) a.tree.now t,
      Z.zeros-all (w.result + frame_size) a.kept.now k,
    )

pub returns : goal.returns
returns c = let a = c.args in
    let w = c.work_room-room in
    let t = sym c.first_are.ensures ∙ c.if-not-first_are.false in
    let k = sym c.first_are-2.ensures ∙ c.if-not-first_are-2.false in
    let o = c.answer_clear.ensures in
    let limited = ap (λ (ns : List Str). judged_sheet (compiled_from a.words.now a.sets.now) (alone (compiled_from a.words.now a.sets.now) a.image.now (listing_of a.list.now)) (says_of a.list.now) ns a.replies.now a.phones.now a.numbers.now) (W.limit-names a.sheet.now a.limit c.requires.2) in
    record {
      answer = W.has-memory a.sheet.now a.tree.now a.kept.now a.replies.now a.phones.now a.numbers.now
          (names_through (compiled_from a.words.now a.sets.now) a.image.now a.list.now a.sheet.now max_names a.replies.now a.phones.now a.numbers.now)
          w.result a.limit w.ensures c.requires.2 t k c.if-replies-size.false _ (o.answer ∙ limited);
      tree = W.put_front (node_size * (w.result + 1)) a.tree.now _ o.tree;
      kept = W.put_front (w.result + frame_size) a.kept.now _ o.kept;
    }
