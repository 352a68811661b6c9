-- What is said from the exceptions list (document 02, request 1): a listed name's phones and no rule numbers, or 4 where they have no room.
-- Assumes nothing.
use Prim.Native.Nat.{ℕ}
use mathlib.Core.Path.{◌≡◌, ap, ◌∙◌}
use mathlib.Core.List.{List, [], ◌∷◌, append-nil}
use mathlib.Core.Bool.{true}
use native.Mathlib.Omega.{arith}
use borrow.Author.Tests.{le-leb}
use lib.ListN.{length}
use Rattle.rules.specs.Names.{SoundName}
use Rattle.exceptions.specs.Judging.{Listing}
use Rattle.image.specs.Image.{valid, entries_of, classes_of}
use Rattle.fitting.specs.Fitting.{Str}
use Rattle.fitting.specs.Reading.{listed}
use Rattle.speech.specs.Speech.{Outcome, speaks, answered, ListedAs, delivered, saying_listed, plain_words, plain_said}
use Rattle.speech.proofs.Call.{call_listed}

pub listed_delivered : (p : Str) (phones numbers : List ℕ) → delivered (speaks (listed p ∷ []) 0) phones numbers ≡ saying_listed p phones numbers
listed_delivered p phones numbers = rw (append-nil p, le-leb 0 (length numbers) (omega arith))

-- a listed name is said from the list
pub listed_said : (image : List ℕ) (l : Listing) (name p : Str) (phones numbers : List ℕ) → valid image ≡ true → SoundName name → ListedAs l name p
    → plain_said image l name phones numbers ≡ saying_listed p phones numbers
unfolding plain_said
listed_said image l name p phones numbers ok s u =
    ap (λ (o : Outcome). delivered o phones numbers) (call_listed image name (λ m. answered (plain_words (classes_of image) (entries_of image) name m) 0) ok l p s u)
    ∙ listed_delivered p phones numbers
