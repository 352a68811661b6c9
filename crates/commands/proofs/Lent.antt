-- Calls over a part that was lent and came back: their outcome with what lies past it, and that what is told has room.
-- Assumes nothing.
use Prim.Native.Nat.{ℕ, ◌≤◌, ◌<◌}
use mathlib.Core.Path.{◌≡◌, sym, ap, ◌∙◌, subst}
use mathlib.Core.List.{List, ◌++◌}
use native.Mathlib.Omega.{arith}
use lib.ListN.{length, take, drop, length-take}
use borrow.Author.Tests.{le-leb, lt-leb}
use Rattle.numbers.specs.Numbers.{two}
use Rattle.rules.specs.Refusals.{Reply, declined, Report}
use Rattle.image.specs.Image.{Edited, outcome}
use Rattle.exceptions.specs.Judging.{Listing, listing_of}
use Rattle.command_parts.specs.Fields.{four, lent_of}
use Rattle.speech.specs.Speech.{Told, Said, saying, plain_outcome, plain_said}
use Rattle.tables.specs.Words.{building, built}
use Rattle.tables.specs.Walk.{Walked, walk_said}
use Rattle.file.specs.Loading.{filing, filed, loaded}
use Rattle.file_format.specs.Layout.{max_input}
use Rattle.answer_lines.specs.Answers.{ToldWithin}
use Rattle.answer_lines.proofs.Told.{delivered_within, walk_within, more_room}
use Rattle.commands.specs.Lent.{built_back, built_in, said_back, plain_in, walked_back, walk_in}
use Rattle.commands.specs.Filing.{loaded_from, filed_back, filed_in}

pub built-back : (r : Reply) (n m : ℕ) (image ws ss x y : List ℕ) → building r x y ≡ built image (take n ws) (take m ss)
    → building r (x ++ drop n ws) (y ++ drop m ss) ≡ built_in n m image ws ss
unfolding built_in
built-back r n m image ws ss x y e = ap (built_back n m ws ss) e

pub said-back : (t : Told) (n m : ℕ) (image list name phones numbers x y : List ℕ) → saying t x y ≡ plain_said image (listing_of list) name (take n phones) (take m numbers)
    → saying t (x ++ drop n phones) (y ++ drop m numbers) ≡ plain_in n m image list name phones numbers
unfolding plain_in
said-back t n m image list name phones numbers x y e = ap (said_back n m phones numbers) e

pub walked-back : (t : Told) (steps n m : ℕ) (image list ws ss name phones numbers x y : List ℕ)
    → record { said = saying t x y; steps = steps } ≡ walk_said image (listing_of list) ws ss name (take n phones) (take m numbers)
    → record { said = saying t (x ++ drop n phones) (y ++ drop m numbers); steps = steps } ≡ walk_in n m image list ws ss name phones numbers
unfolding walk_in
walked-back t steps n m image list ws ss name phones numbers x y e = ap (walked_back n m phones numbers) e

pub filed-back : (r : Report) (n : ℕ) (image out x : List ℕ) → filing r x ≡ filed image (take n out) → filing r (x ++ drop n out) ≡ filed_in n image out
unfolding filed_in
filed-back r n image out x e = ap (filed_back n out) e

-- ---- what is told has room

shorter : (n : ℕ) (xs : List ℕ) → length (take n xs) ≤ length xs
shorter n xs = omega (arith, length-take n xs)

plain_within : (image : List ℕ) (l : Listing) (name phones numbers : List ℕ) → ToldWithin (plain_said image l name phones numbers).told (length phones) (length numbers)
unfolding plain_said
plain_within image l name phones numbers =
    delivered_within (plain_outcome image l name) phones numbers

pub plain_told : (t : Told) (n m : ℕ) (image list name phones numbers x y : List ℕ) → saying t x y ≡ plain_in n m image list name phones numbers
    → ToldWithin t (length phones) (length numbers)
unfolding plain_in
plain_told t n m image list name phones numbers x y e =
    subst (λ (s : Said). ToldWithin s.told (length phones) (length numbers)) (sym e)
    (more_room (plain_said image (listing_of list) name (take n phones) (take m numbers)).told (length (take n phones)) (length (take m numbers)) (length phones) (length numbers)
    (shorter n phones) (shorter m numbers) (plain_within image (listing_of list) name (take n phones) (take m numbers)))

pub walk_told : (t : Told) (steps n m : ℕ) (image list ws ss name phones numbers x y : List ℕ)
    → record { said = saying t x y; steps = steps } ≡ walk_in n m image list ws ss name phones numbers → ToldWithin t (length phones) (length numbers)
unfolding walk_in
walk_told t steps n m image list ws ss name phones numbers x y e =
    subst (λ (s : Walked). ToldWithin s.said.told (length phones) (length numbers)) (sym e)
    (more_room (walk_said image (listing_of list) ws ss name (take n phones) (take m numbers)).said.told (length (take n phones)) (length (take m numbers)) (length phones) (length numbers)
    (shorter n phones) (shorter m numbers) (walk_within image (listing_of list) ws ss name (take n phones) (take m numbers)))

-- ---- the rule file

pub loaded_long : (file image : List ℕ) → max_input < length file → outcome (declined 13 max_input) image ≡ loaded_from file image
unfolding loaded_from
loaded_long file image h = rw (lt-leb (length file) max_input h)

pub loaded_file : (file image : List ℕ) (e : Edited) → length file ≤ max_input → e ≡ loaded file image → e ≡ loaded_from file image
unfolding loaded_from
loaded_file file image e h p = rw (le-leb (length file) max_input h) p

-- ---- answers

-- memory that is as long as before has room for as much
pub same_room : (t : Told) (a b c d : ℕ) → c ≡ a → d ≡ b → ToldWithin t a b → ToldWithin t c d
same_room t a b c d p q w = more_room t a b c d (omega arith) (omega arith) w

-- the lent parts of a walk, by the fields of its command
pub walk_by : (w : Walked) (f image list words sets phones numbers name : List ℕ) (a b n m i j k l : ℕ)
    → a ≡ lent_of i (length words) → i ≡ four 1 f → b ≡ lent_of j (length sets) → j ≡ four 5 f
    → n ≡ lent_of k (length phones) → k ≡ two 9 f → m ≡ lent_of l (length numbers) → l ≡ two 11 f → name ≡ drop 13 f
    → w ≡ walk_in n m image list (take a words) (take b sets) name phones numbers
    → w ≡ walk_in (lent_of (two 9 f) (length phones)) (lent_of (two 11 f) (length numbers)) image list (take (lent_of (four 1 f) (length words)) words) (take (lent_of (four 5 f) (length sets)) sets) (drop 13 f) phones numbers
walk_by w f image list words sets phones numbers name a b n m i j k l ea ei eb ej en ek em el ed e = e ∙ rw (ea, eb, en, em, ed, ei, ej, ek, el)
