-- The replies to the names of a sheet can be printed: a refusal's number is none that stands for a spoken name, and what is told has room.
-- Assumes nothing.
use Prim.Native.Nat.{ℕ, zero, suc, ◌-◌, ◌≤◌, ◌<◌}
use mathlib.Core.Path.{◌≡◌, refl, sym, ap, ◌∙◌, subst}
use mathlib.Core.Bool.{Bool, cond}
use mathlib.Core.List.{List, [], ◌∷◌, ◌++◌}
use mathlib.Core.Option.{none, some}
use native.Mathlib.Omega.{arith}
use lib.Dec.{leb, eqb}
use lib.ListN.{length, drop, length-drop}
use borrow.Author.Tests.{ne_eqb}
use Rattle.rules.specs.Limits.{max_name}
use Rattle.rules.specs.Names.{name_byte, judged_bytes, judged_name}
use Rattle.rules.specs.Shape.{Entry}
use Rattle.rules.specs.Refusals.{Reply, accepted, declined, unless, reply_code}
use Rattle.rules.proofs.Cases.{by_bool}
use Rattle.exceptions.specs.Judging.{Listing}
use Rattle.image.specs.Image.{valid, edits_of, literals_of}
use Rattle.fitting.specs.Fitting.{Str}
use Rattle.fitting.specs.Reading.{Reading, finished, uncovered, bad_tables}
use Rattle.speech.specs.Words.{Word, words_in, read_words, unlisted}
use Rattle.speech.specs.Speech.{Outcome, speaks, declines, answered, judged_by, said_from, judged_for, judged_call, phones_of, numbers_of, Told, spoken, refused, delivered}
use Rattle.tables.specs.Words.{Compiled, edits_in}
use Rattle.tables.specs.Walk.{lengths_fit, judged_tables, all_usable, walk_word, steps_over, judged_passes, walk_through, Walked}
use Rattle.answer_lines.specs.Answers.{ToldWithin}
use Rattle.answer_lines.proofs.Told.{delivered_within, more_room}
use Rattle.many_names.specs.Names.{names_in}
use Rattle.many_names.specs.Codes.{spoken_code, phones_or_place, phones_given, numbers_given, contested_given}
use Rattle.many_names.specs.Many.{reply_size, each}
use Rattle.many_names.proofs.Answering.{delivered-fit}
use Rattle.sheet_lines.specs.SheetLines.{told_by, Printable, AllPrintable}

-- ---- a refusal's number is below the code of a spoken name

abbrev LowReply : Reply → Type 0
LowReply accepted = Unit {0}
LowReply (declined n p) = n < reply_code accepted

abbrev pub Low : Outcome → Type 0
Low (speaks xs steps) = Unit {0}
Low (declines n p steps) = n < reply_code accepted

abbrev LowTold : Told → Type 0
LowTold (spoken p n c) = Unit {0}
LowTold (refused n p) = n < reply_code accepted

low_unless : (r s : Reply) → LowReply r → LowReply s → LowReply (unless r s)
low_unless accepted s a b = b
low_unless (declined n p) s a b = a

low_judged : (r : Reply) (o : Outcome) → LowReply r → Low o → Low (judged_by r o)
low_judged accepted o a b = b
low_judged (declined n p) o a b = a

low_bytes : (i : ℕ) (name : List ℕ) → LowReply (judged_bytes i name)
low_bytes i [] = tt
low_bytes i (b ∷ w) = by_bool (name_byte b) (λ e. rw e (low_bytes (suc i) w)) (λ e. rw e (omega arith))

low_name : (name : List ℕ) → LowReply (judged_name name)
unfolding judged_name
low_name name = by_bool (leb (length name) max_name) (λ e. rw e (low_bytes 0 name)) (λ e. rw e (omega arith))

low_answered : (r : Reading) (steps : ℕ) → Low (answered r steps)
low_answered (finished xs) steps = tt
low_answered (uncovered i) steps = omega arith
low_answered bad_tables steps = omega arith

low_said : (p : Str) (o : Outcome) → Low o → Low (said_from p o)
low_said [] o h = h
low_said (x ∷ p) o h = tt

low_tables : (c : Compiled) (edits : ℕ) → LowReply (judged_tables c edits)
unfolding judged_tables
low_tables c edits =
    by_bool (lengths_fit c) (λ e. rw e (by_bool (eqb (edits_in c.words) edits) (λ u. rw u tt) (λ u. rw u (omega arith)))) (λ e. rw e (omega arith))

low_cond : (b : Bool) (r s : Reply) → LowReply r → LowReply s → LowReply (cond b r s)
low_cond b r s h k = by_bool b (λ e. rw e h) (λ e. rw e k)

low_passes : (c : Compiled) (edits : ℕ) (ws : List Word) → LowReply (judged_passes c edits ws)
low_passes c edits [] = tt
low_passes c edits (w ∷ ws) =
    low_unless (judged_tables c edits) (cond (all_usable c (w ∷ ws)) accepted (declined 16 0)) (low_tables c edits) (low_cond (all_usable c (w ∷ ws)) accepted (declined 16 0) tt (omega arith))

low_walk : (c : Compiled) (edits : ℕ) (rules : List Entry) (name : Str) (m : Str → Str) → Low (walk_through c edits rules name m)
unfolding walk_through
low_walk c edits rules name m =
    low_judged (judged_passes c edits (unlisted m (words_in name))) (answered (read_words m (walk_word c rules) (words_in name)) (steps_over c (unlisted m (words_in name))))
    (low_passes c edits (unlisted m (words_in name))) (low_answered (read_words m (walk_word c rules) (words_in name)) (steps_over c (unlisted m (words_in name))))

low_for : (l : Listing) (name : Str) (o : (Str → Str) → Outcome) → ((m : Str → Str) → Low (o m)) → Low (judged_for l name o)
low_for none name o h = omega arith
low_for (some m) name o h = low_judged (judged_name name) (said_from (m name) (o m)) (low_name name) (low_said (m name) (o m) (h m))

pub low_alone : (c : Compiled) (image : List ℕ) (l : Listing) (name : Str) → Low (judged_call image l name (walk_through c (edits_of image) (literals_of image) name))
low_alone c image l name =
    by_bool (valid image) (λ e. rw e (low_for l name (walk_through c (edits_of image) (literals_of image) name) (low_walk c (edits_of image) (literals_of image) name)))
    (λ e. rw e (omega arith))

low_delivered : (o : Outcome) (phones numbers : List ℕ) → Low o → LowTold (delivered o phones numbers).told
low_delivered (declines n p steps) phones numbers h = h
low_delivered (speaks xs steps) phones numbers h =
    by_bool (leb (length (phones_of xs)) (length phones))
    (λ e. rw e (by_bool (leb (length (numbers_of xs)) (length numbers)) (λ u. rw u tt) (λ u. rw u (omega arith))))
    (λ e. rw e (omega arith))

-- ---- a reply tells what was told

abbrev reply_to : Told → ℕ → List ℕ → List ℕ
reply_to t steps z = spoken_code t ∷ phones_or_place t ∷ numbers_given t ∷ steps ∷ contested_given t ∷ z

told_again : (t : Told) (steps : ℕ) (z : List ℕ) → LowTold t → told_by (reply_to t steps z) ≡ t
told_again (spoken p n c) steps z h = refl
told_again (refused n p) steps z h = ap (λ (b : Bool). cond b (spoken p 0 0) (refused n p)) (ne_eqb n (reply_code accepted) (λ e. absurd (omega arith)))

code_low : (t : Told) → LowTold t → spoken_code t < 256
code_low (spoken p n c) h = omega arith
code_low (refused n p) h = omega arith

printable_reply : (t : Told) (steps : ℕ) (z : List ℕ) (phones numbers : ℕ) → LowTold t → ToldWithin t phones numbers → Printable (reply_to t steps z) phones numbers
printable_reply t steps z phones numbers h w =
    record { coded = code_low t h; within = subst (λ (x : Told). ToldWithin x phones numbers) (sym (told_again t steps z h)) w }

-- ---- all replies

module _ (f : Str → Outcome) (low : (name : Str) → Low (f name)) where
  -- a name said in lent memory
  abbrev said : Str → List ℕ → List ℕ → Walked
  said name phones numbers = record { said = delivered (f name) phones numbers; steps = 0 }

  pub each_printable : (names : List Str) (phones numbers z : List ℕ)
      → AllPrintable (each said names phones numbers).count ((each said names phones numbers).replies ++ z) (length phones) (length numbers)
  each_printable [] phones numbers z = tt
  each_printable (n ∷ ns) phones numbers z =
      let s = delivered (f n) phones numbers in
      let t = s.told in
      let fit = delivered-fit (f n) phones numbers in
      let l = each said ns (drop (phones_given t) s.phones) (drop (numbers_given t) s.numbers) in
      let h = low_delivered (f n) phones numbers (low n) in
      let e = told_again t 0 (l.replies ++ z) h in
      let p : length (drop (phones_given t) s.phones) ≡ length phones - phones_given (told_by (reply_to t 0 (l.replies ++ z))) =
      length-drop (phones_given t) s.phones ∙ (ap (λ (k : ℕ). k - phones_given t) fit.phones-keep ∙ ap (λ (x : Told). length phones - phones_given x) (sym e)) in
      let q : length (drop (numbers_given t) s.numbers) ≡ length numbers - numbers_given (told_by (reply_to t 0 (l.replies ++ z))) =
      length-drop (numbers_given t) s.numbers ∙ (ap (λ (k : ℕ). k - numbers_given t) fit.numbers_keep ∙ ap (λ (x : Told). length numbers - numbers_given x) (sym e)) in (
        printable_reply t 0 (l.replies ++ z) (length phones) (length numbers) h (delivered_within (f n) phones numbers),
        subst (λ (b : ℕ). AllPrintable l.count (l.replies ++ z) (length phones - phones_given (told_by (reply_to t 0 (l.replies ++ z)))) b) q
            (subst (λ (a : ℕ). AllPrintable l.count (l.replies ++ z) a (length (drop (numbers_given t) s.numbers))) p
            (each_printable ns (drop (phones_given t) s.phones) (drop (numbers_given t) s.numbers) z)),
      )

  pub each_count : (names : List Str) (phones numbers : List ℕ) → (each said names phones numbers).count ≡ length names
  each_count [] phones numbers = refl
  each_count (n ∷ ns) phones numbers =
      let s = delivered (f n) phones numbers in
      ap suc (each_count ns (drop (phones_given s.told) s.phones) (drop (numbers_given s.told) s.numbers))

pub few-names : (k : ℕ) (s : List ℕ) → length (names_in k s) ≤ k
few-names zero s = omega arith
few-names (suc k) [] = omega arith
few-names (suc k) (n ∷ s) = by_bool (leb n (length s)) (λ e. rw e (omega (arith, few-names k (drop n s)))) (λ e. rw e (omega arith))

-- more phones and numbers are enough too
pub more_printable : (n : ℕ) (replies : List ℕ) (a b c d : ℕ) → a ≤ c → b ≤ d → AllPrintable n replies a b → AllPrintable n replies c d
more_printable zero replies a b c d h k w = tt
more_printable (suc n) replies a b c d h k w = (
  record { coded = w.0.coded; within = more_room (told_by replies) a b c d h k w.0.within },
  more_printable n (drop reply_size replies) _ _ _ _ (omega arith) (omega arith) w.1,
)
