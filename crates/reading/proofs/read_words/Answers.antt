-- `reading::read_words` meets its contract: one word more at each turn.
-- Assumes nothing.
use Rattle.std.proofs.lemmas.Result.{err_from_is_err_and}
use Prim.Native.Nat.{ℕ}
use mathlib.Core.Path.{◌≡◌, sym, ◌∙◌, subst}
use Rattle.exceptions.specs.Judging.{says_of}
use Rattle.image.specs.Image.{entries_of, classes_of}
use Rattle.fitting.specs.Reading.{plain}
use Rattle.reading.proofs.NameReading.{words_read_begin, words_read_word, words_read_next, words_read_stop, words_read_end}
use Rattle.speech.specs.Places.{ReadOn}
use native.Mathlib.Omega.{arith}
use Rattle.reading.proofs.read_words.Goals as goal

pub loop-from-init : goal.loop-from-init
loop-from-init c = words_read_begin c.args.rules.bytes.now c.args.list.now (says_of c.args.list.now) (plain (classes_of c.args.rules.bytes.now) (entries_of c.args.rules.bytes.now)) c.args.name.now c.args.parts.now c.requires.2

pub read_word-requires : goal.read_word-requires
read_word-requires c = (c.requires.0, c.requires.1, words_read_word c.args.rules.bytes.now c.args.list.now (says_of c.args.list.now) (plain (classes_of c.args.rules.bytes.now) (entries_of c.args.rules.bytes.now)) c.args.name.now c.loop-from.parts c.loop-from.count c.loop-from.from c.loop-from.invariant (omega arith) _ c.word_end-end.ensures, c.loop-from.invariant.so_far)

pub returns-in_err-count : goal.returns-in_err-count
returns-in_err-count c = let p = err_from_is_err_and c.from_residual.result c.from_residual.ensures.1 in rw (p.1, p.2) (words_read_stop c.args.rules.bytes.now c.args.list.now (says_of c.args.list.now) (plain (classes_of c.args.rules.bytes.now) (entries_of c.args.rules.bytes.now)) c.args.name.now c.loop-from.parts c.loop-from.count c.loop-from.from c.loop-from.invariant (omega arith) _ c.word_end-end.ensures _ _ (subst (ReadOn _ _ _ _ _ _) c.in_err-count.was c.read_word.ensures) c.requires.0.sound (λ k q. let z : ◌≡◌ {A = ℕ} 0 1 = cc in omega arith))

pub loop-from-smaller : goal.loop-from-smaller
loop-from-smaller c = omega (arith, c.word_end-end.ensures)

pub loop-from-preserved : goal.loop-from-preserved
loop-from-preserved c = words_read_next c.args.rules.bytes.now c.args.list.now (says_of c.args.list.now) (plain (classes_of c.args.rules.bytes.now) (entries_of c.args.rules.bytes.now)) c.args.name.now c.loop-from.parts c.loop-from.count c.loop-from.from c.loop-from.invariant (omega arith) _ c.word_end-end.ensures _ _ c.read_word.ensures _ c.in_ok-count.was

pub shape_of-parts : goal.shape_of-parts
shape_of-parts c = c.loop-from.invariant.so_far.sized ∙ sym c.requires.2

pub returns : goal.returns
returns c = words_read_end c.args.rules.bytes.now c.args.list.now (says_of c.args.list.now) (plain (classes_of c.args.rules.bytes.now) (entries_of c.args.rules.bytes.now)) c.args.name.now c.loop-from.parts c.loop-from.count c.loop-from.from c.loop-from.invariant c.requires.0.sound (omega arith)
