-- Bounds for a caller that goes through a text line by line.
--     onward           the next line starts after this one
--     answer-short     no answer's line has more than `longest_line` bytes
-- Assumes nothing.
use Prim.Native.Nat.{ℕ, zero, suc, ◌≤◌, ◌<◌}
use mathlib.Core.List.{List, [], ◌∷◌}
use native.Mathlib.Omega.{arith}
use lib.Dec.{eqb}
use lib.ListN.{length, take, drop, length-drop}
use Rattle.rules.proofs.Cases.{by_bool}
use Rattle.exceptions.specs.Judging.{no_list}
use Rattle.frames.specs.Lines.{past_line, line_after, sound_line}
use Rattle.speech.specs.Speech.{Told, spoken, refused}
use Rattle.tables.specs.Walk.{walk_said}
use Rattle.lines.specs.Printed.{refused_body, printed}
use Rattle.answer_lines.specs.Answers.{longest_line, spoken_body, told_body, ToldWithin}
use Rattle.transcript.specs.Names.{Asked, unsound, name, asked, lent_phones, lent_numbers, name_line, answer_to, name_answer}
use Rattle.answer_lines.proofs.Fields.{length_spoken}
use Rattle.lines.proofs.Printed.{length_printed}
use Rattle.answer_lines.proofs.Told.{walk_within}

past_within : (s : List ℕ) → length (past_line s) ≤ length s
past_within [] = omega arith
past_within (a ∷ s) = by_bool (eqb a 10) (λ e. rw e (omega arith)) (λ e. rw e (omega (arith, past_within s)))

past_shorter : (s : List ℕ) → 0 < length s → length (past_line s) < length s
past_shorter [] h = absurd (omega arith)
past_shorter (a ∷ s) h = by_bool (eqb a 10) (λ e. rw e (omega arith)) (λ e. rw e (omega (arith, past_within s)))

pub onward : (text : List ℕ) (at : ℕ) → at < length text → at < line_after text at
unfolding line_after
onward text at h = let d = length-drop at text in omega (arith, past_shorter (drop at text) (omega arith))

-- ---- lengths of answers

length_first : (n : ℕ) (l : List ℕ) → length (take n l) ≤ n
length_first zero l = omega arith
length_first (suc n) [] = omega arith
length_first (suc n) (a ∷ l) = omega (arith, length_first n l)

told_short : (t : Told) (steps : ℕ) (phones numbers : List ℕ) → ToldWithin t 256 64 → length (printed (told_body t steps phones numbers)) ≤ longest_line
told_short (spoken p n c) steps phones numbers w =
    omega (arith, length_printed (spoken_body steps (take p phones) (take n numbers)), length_spoken steps (take p phones) (take n numbers), length_first p phones, length_first n numbers, w.0, w.1)
told_short (refused k p) steps phones numbers w = omega (arith, length_printed (refused_body k p))

module _ (image words sets : List ℕ) where
  name_line_short : (letters : List ℕ) → length (name_line image words sets letters) ≤ longest_line
  unfolding name_line lent_phones lent_numbers
  name_line_short letters =
      let w = walk_said image no_list words sets letters lent_phones lent_numbers in
      told_short w.said.told w.steps w.said.phones w.said.numbers (walk_within image no_list words sets letters lent_phones lent_numbers)

  asked_short : (a : Asked) → length (answer_to image words sets a) ≤ longest_line
  asked_short unsound = omega (arith, length_printed (refused_body 13 0))
  asked_short (name letters) = name_line_short letters

  pub answer_short : (s : List ℕ) → length (name_answer image words sets s) ≤ longest_line
  unfolding name_answer
  answer_short s = asked_short (asked (sound_line s))
