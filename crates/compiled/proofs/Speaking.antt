-- The walk of a name, by what its judgements found.
-- Assumes nothing.
use Rattle.std.specs.Prelude.{Result, Ok, Err, Option, Some}
use mathlib.Core.Path.{◌≡◌, sym, ap, ap₂, ◌∙◌}
use mathlib.Core.List.{List}
use mathlib.Core.Bool.{true, false}
use mathlib.Core.Option.{some}
use Prim.Native.Nat.{ℕ}
use Rattle.rules.specs.Names.{judged_name}
use Rattle.rules.specs.Refusals.{refusal_number, refusal_place, reply_of}
use Rattle.rules.specs.declared.Refusal.TheVariants.{NotRuleset, BadList}
use Rattle.exceptions.specs.Judging.{is_list, Listing, listing_of}
use Rattle.image.specs.Image.{valid, edits_of, literals_of}
use Rattle.fitting.specs.Fitting.{Str}
use Rattle.speech.specs.Speech.{Outcome, at_once, said_from, listed_or, Following, judged_call, told_of, Said as Told, saying}
use Rattle.speech.specs.Places.{SaysListed}
use Rattle.speech.specs.declared.Spoken.{Spoken}
use Rattle.rules.specs.declared.Refusal.{Refusal}
use Rattle.speech.proofs.Call.{found_refused, found_sound, listing_none, call_invalid, call_none, call_refused, call_sound}
use Rattle.speech.proofs.Lookup.{listed_answer, listed_steps}
use Rattle.tables.specs.Words.{Compiled}
use Rattle.tables.specs.Walk.{walk_through, Walked, walkedAs, walk_for}
use Rattle.walk.specs.Walked.{walked_of}
use Rattle.walk.specs.declared.WalkAnswer.{WalkAnswer}

-- the call comes to o
pub walked_as : (c : Compiled) (image : List ℕ) (l : Listing) (name : Str) (phones numbers : List ℕ) (o : Outcome)
    → judged_call image l name (walk_through c (edits_of image) (literals_of image) name) ≡ o → (w : Walked) → w ≡ walkedAs o phones numbers → w ≡ walk_for c image l name phones numbers
unfolding walk_for
walked_as c image l name phones numbers o e w q = q ∙ ap (λ (x : Outcome). walkedAs x phones numbers) (sym e)

-- refused before the name is judged
pub walked_invalid : (c : Compiled) (image : List ℕ) (l : Listing) (name : Str) (phones numbers : List ℕ) → valid image ≡ false → (r : WalkAnswer)
    → r ≡ record { steps = 0; speech = Err (NotRuleset 0) } → walked_of r phones numbers ≡ walk_for c image l name phones numbers
walked_invalid c image l name phones numbers e r f =
    walked_as c image l name phones numbers (at_once 0 0) (call_invalid image name (walk_through c (edits_of image) (literals_of image) name) l e) _
    (ap (λ (y : WalkAnswer). walked_of y phones numbers) f)

pub walked_none : (c : Compiled) (image list : List ℕ) (name : Str) (phones numbers : List ℕ) → valid image ≡ true → is_list list ≡ false → (r : WalkAnswer)
    → r ≡ record { steps = 0; speech = Err (BadList 0) } → walked_of r phones numbers ≡ walk_for c image (listing_of list) name phones numbers
walked_none c image list name phones numbers ok e r f =
    walked_as c image (listing_of list) name phones numbers (at_once 17 0)
    (call_none image name (walk_through c (edits_of image) (literals_of image) name) ok (listing_of list) (listing_none list e)) _ (ap (λ (y : WalkAnswer). walked_of y phones numbers) f)

module _ (c : Compiled) (image : List ℕ) (ok : valid image ≡ true) (l : Listing) (m : Str → Str) (is : l ≡ some m) (name : Str) (phones numbers : List ℕ)
    (a : Result (Unit {0}) Refusal) (j : reply_of a ≡ judged_name name) where
  abbrev walked : Following
  walked = walk_through c (edits_of image) (literals_of image) name

  pub walked_refused : (x : Refusal) → a ≡ Err x → (r : WalkAnswer) → r ≡ record { steps = 0; speech = Err x } → walked_of r phones numbers ≡ walk_for c image l name phones numbers
  walked_refused x e r f =
      walked_as c image l name phones numbers (at_once (refusal_number x) (refusal_place x))
      (call_refused image name walked ok l m is (refusal_number x) (refusal_place x) (found_refused name a j x e)) _ (ap (λ (y : WalkAnswer). walked_of y phones numbers) f)

  pub walked_sound : a ≡ Ok tt → (w : Walked) → w ≡ walkedAs (listed_or m name (walked m)) phones numbers → w ≡ walk_for c image l name phones numbers
  walked_sound e = walked_as c image l name phones numbers (listed_or m name (walked m)) (call_sound image name walked ok l m is (found_sound name a j e))

-- a sound name, by what its look-up found
module _ (p : Str) (o : Outcome) (phones after numbers : List ℕ) (r : Option (Result Spoken Refusal)) (is : SaysListed p phones after r) where
  pub walked_listed : (s : Result Spoken Refusal) → r ≡ Some s → record { said = saying (told_of s) after numbers; steps = 0 } ≡ walkedAs (said_from p o) phones numbers
  walked_listed s e =
      ap₂ (λ (x : Told) (k : ℕ). record { said = x; steps = k }) (listed_answer p o phones after numbers r is s e) (sym (listed_steps p o phones after numbers r is s e))
