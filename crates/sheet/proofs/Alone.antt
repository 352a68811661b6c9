-- What a name comes to alone, and that its answer on the sheet is the one given singly; and what the sheet's one count is.
-- Assumes nothing.
use mathlib.Core.Path.{◌≡◌, refl, sym, ap, ◌∙◌}
use Prim.Native.Nat.{ℕ, ◌+◌, ◌-◌}
use mathlib.Core.Bool.{Bool, true, cond}
use mathlib.Core.List.{List}
use lib.ListN.{length}
use Rattle.rules.specs.Names.{judged_name}
use Rattle.rules.specs.Refusals.{accepted}
use Rattle.exceptions.specs.Judging.{is_list, Listing, listing_of}
use Rattle.image.specs.Image.{valid, edits_of, literals_of}
use Rattle.fitting.specs.Fitting.{Str}
use Rattle.speech.specs.Speech.{at_once, judged_by, listed_or, judged_for, plain_said}
use Rattle.speech.proofs.Call.{listing_some}
use Rattle.speech.proofs.Lookup.{says_all}
use Rattle.tables.specs.Words.{Compiled, compiled_from, left_of, right_of, built}
use Rattle.tables.specs.Walk.{walk_through, walk_for, shared_steps}
use Rattle.tables.specs.Steps.{prefixes_of, right_steps}
use Rattle.tables.proofs.Sharing.{shared-steps}
use Rattle.tables.proofs.Theorem.{table_theorem}
use Rattle.walk.specs.Walked.{compiled_with}
use Rattle.sheet_name.specs.Judging.{outcome_of}
use Rattle.sheet_judging.specs.Sheet.{sheet_words}
use Rattle.sheet_answers.specs.Answers.{said_by}
use Rattle.sheet.specs.Sheet.{alone}

module _ (words sets : List ℕ) (l r : ℕ) (image list : List ℕ) (ok : valid image ≡ true) (known : is_list list ≡ true) where
  at_name : (name : Str) → outcome_of words sets l r image list name ≡ alone (compiled_with words sets l r) image (listing_of list) name
  at_name name =
      let o = walk_through (compiled_with words sets l r) (edits_of image) (literals_of image) name in
      ap (λ (m : Str → Str). judged_by (judged_name name) (listed_or m name (o m))) (says_all list known)
      ∙ sym (ap (λ (b : Bool). cond b (judged_for (listing_of list) name o) (at_once 0 0)) ok ∙ ap (λ (m : Listing). judged_for m name o) (listing_some list known))

  pub outcomes_alone : outcome_of words sets l r image list ≡ alone (compiled_with words sets l r) image (listing_of list)
  outcomes_alone = λ i name. at_name name i

-- every answer of a sheet is the one given singly over the lent memory that is left, save for the steps
pub answer_single : (c : Compiled) (image : List ℕ) (l : Listing) (name : Str) (phones numbers : List ℕ)
    → (said_by (alone c image l) name phones numbers).said ≡ (walk_for c image l name phones numbers).said
unfolding walk_for
answer_single c image l name phones numbers = refl

-- so through the tables of an accepted build it is what the plain reading says
pub answer_plain : (image ws ss : List ℕ) (l : Listing) (name : Str) (phones numbers : List ℕ) → (built image ws ss).reply ≡ accepted
    → (said_by (alone (compiled_from (built image ws ss).words (built image ws ss).sets) image l) name phones numbers).said ≡ plain_said image l name phones numbers
answer_plain image ws ss l name phones numbers ok =
    answer_single (compiled_from (built image ws ss).words (built image ws ss).sets) image l name phones numbers ∙ table_theorem image l ws ss name phones numbers ok

-- the one count: the different non-empty prefixes of # followed by a word, and the right steps of each word, over all words that a name alone would
-- send through the tables
pub sheet_steps : (c : Compiled) (m : Str → Str) (names : List Str)
    → shared_steps c (sheet_words m names) ≡ (length (prefixes_of (sheet_words m names)) - 1) + right_steps (sheet_words m names)
sheet_steps c m names = shared-steps (left_of c) (right_of c) (sheet_words m names)
