-- Tables whose edit count is not the ruleset's (document 02, request 6): a name that needs them is refused with 22, and nothing is looked up or written.
-- Assumes nothing.
use mathlib.Core.Path.{◌≡◌, refl, ap, ◌∙◌}
use Prim.Native.Nat.{ℕ}
use mathlib.Core.Bool.{true}
use mathlib.Core.List.{List, [], ◌∷◌}
use borrow.Author.Tests.{ne_eqb}
use Rattle.rules.specs.Names.{SoundName}
use Rattle.rules.specs.Refusals.{accepted, declined}
use Rattle.rules.specs.Shape.{Entry}
use Rattle.exceptions.specs.Judging.{Listing}
use Rattle.image.specs.Image.{valid, edits_of, literals_of}
use Rattle.fitting.specs.Fitting.{Str}
use Rattle.speech.specs.Words.{Word, words_in, unlisted}
use Rattle.speech.specs.Speech.{Outcome, at_once, said_of, Unlisted}
use Rattle.speech.proofs.Call.{call_unlisted}
use Rattle.tables.specs.Words.{edits_in, Compiled, compiled_from, built}
use Rattle.tables.specs.Walk.{lengths_fit, judged_tables, judged_passes, walk_through, walkedAs, walk_for}
use Rattle.tables.proofs.Theorem.{accepted_build}
use Rattle.tables.proofs.Words.{fit_built, edits_built}

module _ (c : Compiled) (edits : ℕ) (fit : lengths_fit c ≡ true) (other : edits_in c.words ≡ edits → ⊥) where
  stale_tables : judged_tables c edits ≡ declined 22 0
  unfolding judged_tables
  stale_tables = rw (fit, ne_eqb (edits_in c.words) edits other)

  stale_passes : (vs : List Word) → (vs ≡ [] → ⊥) → judged_passes c edits vs ≡ declined 22 0
  stale_passes [] h = absurd (h refl)
  stale_passes (v ∷ vs) h = rw stale_tables

  stale_through : (rules : List Entry) (name : Str) (m : Str → Str) → (unlisted m (words_in name) ≡ [] → ⊥) → walk_through c edits rules name m ≡ at_once 22 0
  unfolding walk_through
  stale_through rules name m h = rw (stale_passes (unlisted m (words_in name)) h)

-- a sound name that is not on the list and has an unlisted word, through tables of the right lengths with another count
pub stale_refused : (c : Compiled) (image : List ℕ) (l : Listing) (name : Str) (phones numbers : List ℕ) → valid image ≡ true → SoundName name → Unlisted l name
    → (unlisted (said_of l) (words_in name) ≡ [] → ⊥) → lengths_fit c ≡ true → (edits_in c.words ≡ edits_of image → ⊥)
    → walk_for c image l name phones numbers ≡ walkedAs (at_once 22 0) phones numbers
unfolding walk_for
stale_refused c image l name phones numbers ok s u need fit other =
    ap (λ (o : Outcome). walkedAs o phones numbers)
    (call_unlisted image name (walk_through c (edits_of image) (literals_of image) name) ok l s u ∙ stale_through c (edits_of image) fit other (literals_of image) name (said_of l) need)

-- the tables of an accepted build have the right lengths, and carry the edit count of the ruleset that they were built from
module _ (image ws ss : List ℕ) (ok : (built image ws ss).reply ≡ accepted) where
  pub built_fit : lengths_fit (compiled_from (built image ws ss).words (built image ws ss).sets) ≡ true
  built_fit =
      let a = accepted_build image ws ss ok in
      rw (a.words_are, a.sets-are) (fit_built (edits_of image) (literals_of image) _ _)

  pub built_edits : edits_in (built image ws ss).words ≡ edits_of image
  built_edits =
      let a = accepted_build image ws ss ok in
      ap edits_in a.words_are ∙ edits_built (edits_of image) (literals_of image) _ []
