-- `table_reading::read_words` meets its contract: one word more at each turn.
-- Assumes nothing.
use Rattle.std.specs.Prelude.{ℕ, Result, Ok, Err}
use Rattle.std.proofs.lemmas.Result.{err_from_is_err_and}
use Rattle.speech.specs.declared.Unread.{Unread}
use Rattle.table_reading.specs.Letters.{NameRead}
use mathlib.Core.Path.{◌≡◌, sym, ap, subst, ◌∙◌}
use lib.ListN.{length}
use Rattle.reading.proofs.NameWords.{frame_length}
use Rattle.reading.proofs.WordReading.{part_inside}
use Rattle.table_reading.proofs.WordsRead.{name_begin, name_word, name_bounded, name-next, name_stop, name-end, few_so_far}
use native.Mathlib.Omega.{arith}
use Rattle.table_reading.proofs.read_words.Goals as goal

no_ok_err : {k : ℕ} {x : Unread} → ◌≡◌ {A = Result ℕ Unread} (Ok k) (Err x) → ⊥
no_ok_err q = let z : ◌≡◌ {A = ℕ} 0 1 = cc in omega arith

pub loop-from-init : goal.loop-from-init
loop-from-init c = name_begin c.args.image.now c.args.sets.now c.args.right_sets c.args.name.now c.args.found.now c.args.left.now c.args.right.now c.args.parts.now c.requires.7

pub offset_bounds-found-from : goal.offset_bounds-found-from
offset_bounds-found-from c = omega (arith, c.requires.1.short)

pub bounds-found-from : goal.bounds-found-from
bounds-found-from c = omega (arith, c.requires.1.short, c.requires.3)

pub read_word-requires : goal.read_word-requires
read_word-requires c = let v = name_word c.args.image.now c.args.sets.now c.args.right_sets c.args.name.now c.args.found.now c.args.left.now c.args.right.now c.requires.0 c.requires.1 c.args.frame.now c.requires.2 c.loop-from.parts c.loop-from.count c.loop-from.from c.loop-from.invariant (omega arith) _ c.word_end-end.ensures in let i = part_inside c.args.name.now c.args.frame.now c.requires.2 _ _ v in (c.requires.0, omega (arith, c.word_end-end.ensures), i, omega (arith, ap length c.requires.2, frame_length c.args.name.now, c.requires.1.short), (λ z. name_bounded c.args.image.now c.args.sets.now c.args.right_sets c.args.name.now c.args.found.now c.args.left.now c.args.right.now c.requires.0 c.requires.1 c.args.frame.now c.requires.2 c.loop-from.parts c.loop-from.count c.loop-from.from c.loop-from.invariant (omega arith) _ c.word_end-end.ensures c.requires.4 c.requires.5 c.requires.6 z), c.requires.4, c.requires.5, c.loop-from.invariant.sized, c.loop-from.invariant.few)

pub returns-in_err-count : goal.returns-in_err-count
returns-in_err-count c = let a = c.args in
    let k = c.loop-from in
    let p = err_from_is_err_and c.from_residual.result c.from_residual.ensures.1 in
    let never = λ (j : ℕ) (q : c.read_word.result ≡ Ok j). absurd (no_ok_err (sym q ∙ c.in_err-count.was)) in
    let n = name_stop a.image.now a.sets.now a.right_sets a.name.now a.found.now a.left.now a.right.now c.requires.0 c.requires.1 a.frame.now c.requires.2 k.parts k.count k.from k.invariant (omega arith) _ c.word_end-end.ensures _ _ c.read_word.ensures never in
    rw (p.1, p.2) (record {
      few = (λ j q. absurd (no_ok_err (sym q)));
      read = subst (NameRead a.image.now a.sets.now a.right_sets a.name.now a.found.now a.left.now a.right.now _) c.in_err-count.was n;
    })

pub loop-from-smaller : goal.loop-from-smaller
loop-from-smaller c = omega (arith, c.word_end-end.ensures)

pub loop-from-preserved : goal.loop-from-preserved
loop-from-preserved c = name-next c.args.image.now c.args.sets.now c.args.right_sets c.args.name.now c.args.found.now c.args.left.now c.args.right.now c.requires.0 c.requires.1 c.args.frame.now c.requires.2 c.loop-from.parts c.loop-from.count c.loop-from.from c.loop-from.invariant (omega arith) _ c.word_end-end.ensures _ _ c.read_word.ensures _ c.in_ok-count.was

pub shape_of-parts : goal.shape_of-parts
shape_of-parts c = c.loop-from.invariant.sized ∙ sym c.requires.7

pub returns : goal.returns
returns c = let a = c.args in
    let k = c.loop-from in
    record {
      few = few_so_far a.image.now a.sets.now a.right_sets a.name.now a.found.now a.left.now a.right.now k.parts k.count k.from k.invariant;
      read = name-end a.image.now a.sets.now a.right_sets a.name.now a.found.now a.left.now a.right.now c.requires.0 c.requires.1 a.frame.now c.requires.2 k.parts k.count k.from k.invariant (omega arith);
    }
