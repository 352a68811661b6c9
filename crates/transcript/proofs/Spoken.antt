-- What `say` answers to a name: one over 64 letters is answered as its first 65 are.
-- Assumes nothing.
use Prim.Native.Nat.{ℕ}
use mathlib.Core.Path.{◌≡◌, refl, sym, ap, ◌∙◌, subst}
use mathlib.Core.List.{List, []}
use mathlib.Core.Bool.{true, false}
use native.Mathlib.Omega.{arith}
use borrow.Author.Tests.{leb-true, leb-false, lt-leb}
use Rattle.std.specs.Prelude.{Option}
use lib.Dec.{leb}
use lib.ListN.{length, take}
use lib.Seq.{take_all, length-take-le}
use Rattle.rules.proofs.Cases.{by_bool}
use Rattle.rules.proofs.Names.{name_long}
use Rattle.rules.specs.Limits.{max_name}
use Rattle.exceptions.specs.Judging.{no_list}
use Rattle.image.specs.Image.{valid, edits_of, literals_of}
use Rattle.frames.specs.Lines.{sound_line}
use Rattle.speech.specs.Speech.{Outcome, at_once, Told, saying}
use Rattle.speech.proofs.Call.{call_refused}
use Rattle.tables.specs.Words.{compiled_from}
use Rattle.tables.specs.Walk.{Walked, walkedAs, walk_through, walk_for, walk_said}
use Rattle.lines.specs.Printed.{printed}
use Rattle.answer_lines.specs.Answers.{told_body, walked_line, ToldWithin}
use Rattle.answer_lines.proofs.Told.{walk_within}
use Rattle.transcript.specs.Names.{Asked, unsound, name, lent_phones, lent_numbers, name_line, asked, answer_to, name_answer, cut, name_in}

module _ (image words sets : List ℕ) where
  -- the answer to a name over 64 letters
  overlong : (letters phones numbers : List ℕ) → valid image ≡ true → leb (length letters) max_name ≡ false
      → walk_said image no_list words sets letters phones numbers ≡ walkedAs (at_once 2 0) phones numbers
  unfolding walk_for
  overlong letters phones numbers v e =
      ap (λ (o : Outcome). walkedAs o phones numbers)
      (call_refused image letters (walk_through (compiled_from words sets) (edits_of image) (literals_of image) letters) v no_list (λ w. []) refl 2 0 (name_long letters (leb-false (length letters) max_name e)))

  cut_line : (letters : List ℕ) → valid image ≡ true → name_line image words sets (take 65 letters) ≡ name_line image words sets letters
  unfolding name_line
  cut_line letters v =
      by_bool (leb (length letters) max_name)
      (λ e. let l = leb-true (length letters) max_name e in ap (λ (w : List ℕ). walked_line (walk_said image no_list words sets w lent_phones lent_numbers)) (take_all 65 letters (omega arith)))
      (λ e.
      let l = leb-false (length letters) max_name e in
      let k = length-take-le 65 letters (omega arith) in
      ap walked_line (overlong (take 65 letters) lent_phones lent_numbers v (lt-leb (length (take 65 letters)) max_name (omega arith)) ∙ sym (overlong letters lent_phones lent_numbers v e)))

  pub cut_answer : (a : Asked) → valid image ≡ true → answer_to image words sets (cut a) ≡ answer_to image words sets a
  cut_answer unsound v = refl
  cut_answer (name letters) v = cut_line letters v

-- a walk whose answer is given with its lent memory
module _ (image words sets letters : List ℕ) (told : Told) (steps : ℕ) (phones numbers : List ℕ)
    (e : record { said = saying told phones numbers; steps = steps } ≡ walk_said image no_list words sets letters lent_phones lent_numbers) where
  pub name_line_is : printed (told_body told steps phones numbers) ≡ name_line image words sets letters
  unfolding name_line
  name_line_is = ap walked_line e

  pub told_within : (a b : ℕ) → a ≡ 256 → b ≡ 64 → ToldWithin told a b
  unfolding lent_phones lent_numbers
  told_within a b p q = rw (p, q) (subst (λ (w : Walked). ToldWithin w.said.told 256 64) (sym e) (walk_within image no_list words sets letters lent_phones lent_numbers))

-- ---- what was found in a line, answered

module _ (image words sets s kept : List ℕ) (v : valid image ≡ true) (end : Option ℕ) (h : name_in end kept ≡ cut (asked (sound_line s))) where
  pub answered : answer_to image words sets (name_in end kept) ≡ name_answer image words sets s
  unfolding name_answer
  answered = ap (answer_to image words sets) h ∙ cut_answer image words sets (asked (sound_line s)) v
