-- What a walk tells fits the memory lent to it; an answer by cases.
-- Assumes nothing.
use Rattle.std.specs.Prelude.{Err, Ok, Result}
use Prim.Native.Nat.{ℕ, ◌≤◌}
use mathlib.Core.Path.{◌≡◌, sym, ap, subst}
use mathlib.Core.List.{List}
use native.Mathlib.Omega.{arith}
use borrow.Author.Tests.{leb-true}
use lib.Dec.{leb}
use lib.ListN.{length, take}
use Rattle.rules.proofs.Cases.{by_bool}
use Rattle.rules.specs.Refusals.{refusal_number, refusal_place}
use Rattle.exceptions.specs.Judging.{Listing}
use Rattle.image.specs.Image.{edits_of, literals_of}
use Rattle.speech.specs.Speech.{Outcome, speaks, declines, judged_call, Told, spoken, refused, told_of, phones_of, numbers_of, delivered}
use Rattle.speech.specs.declared.Spoken.{Spoken}
use Rattle.rules.specs.declared.Refusal.{Refusal}
use Rattle.speech.proofs.Counted.{contested_most}
use Rattle.tables.specs.Words.{compiled_from}
use Rattle.tables.specs.Walk.{walk_through, walk_for, walk_said}
use Rattle.lines.specs.Printed.{refused_body, printed, refusal_line}
use Rattle.lines.proofs.Printed.{length_printed}
use Rattle.answer_lines.specs.Answers.{spoken_body, told_body, ToldWithin}

pub delivered_within : (o : Outcome) (phones numbers : List ℕ) → ToldWithin (delivered o phones numbers).told (length phones) (length numbers)
delivered_within (declines n p steps) phones numbers = tt
delivered_within (speaks xs steps) phones numbers =
    by_bool (leb (length (phones_of xs)) (length phones))
    (λ e. rw e (by_bool (leb (length (numbers_of xs)) (length numbers)) (λ f. rw f (leb-true _ _ e, leb-true _ _ f, contested_most xs)) (λ f. rw f tt)))
    (λ e. rw e tt)

pub walk_within : (image : List ℕ) (l : Listing) (words sets letters phones numbers : List ℕ)
    → ToldWithin (walk_said image l words sets letters phones numbers).said.told (length phones) (length numbers)
unfolding walk_for
walk_within image l words sets letters phones numbers =
    delivered_within (judged_call image l letters (walk_through (compiled_from words sets) (edits_of image) (literals_of image) letters)) phones numbers

-- more memory has room too
pub more_room : (t : Told) (a b c d : ℕ) → a ≤ c → b ≤ d → ToldWithin t a b → ToldWithin t c d
more_room (spoken p n q) a b c d h k w = (omega (arith, w.0, h), omega (arith, w.1, k), w.2)
more_room (refused n p) a b c d h k w = tt

module _ (s : Result Spoken Refusal) (x : Spoken) (e : s ≡ Ok x) where
  pub spoken_within : (a b : ℕ) → ToldWithin (told_of s) a b → (x.phones ≤ a) × (x.numbers ≤ b) × (x.contested ≤ x.numbers)
  spoken_within a b h = subst (λ (t : Result Spoken Refusal). ToldWithin (told_of t) a b) e h

  pub spoken_told : (steps : ℕ) (phones numbers : List ℕ) → printed (spoken_body steps (take x.phones phones) (take x.numbers numbers)) ≡ printed (told_body (told_of s) steps phones numbers)
  spoken_told steps phones numbers = ap (λ (t : Result Spoken Refusal). printed (told_body (told_of t) steps phones numbers)) (sym e)

pub refused_told : (s : Result Spoken Refusal) (x : Refusal) → s ≡ Err x → (steps : ℕ) (phones numbers : List ℕ) → refusal_line x ≡ printed (told_body (told_of s) steps phones numbers)
refused_told s x e steps phones numbers = ap (λ (t : Result Spoken Refusal). printed (told_body (told_of t) steps phones numbers)) (sym e)

pub length_refusal : (x : Refusal) → length (refusal_line x) ≡ 15
length_refusal x = length_printed (refused_body (refusal_number x) (refusal_place x))
