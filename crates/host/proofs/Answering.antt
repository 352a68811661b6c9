-- Many names in one call, each answered by the walk.
-- Assumes nothing.
use Prim.Native.Nat.{ℕ, ◌/◌}
use mathlib.Core.Path.{◌≡◌, refl}
use mathlib.Core.Bool.{true, false}
use mathlib.Core.List.{List}
use lib.ListN.{length}
use Rattle.image.specs.Image.{valid, edits_of, literals_of}
use Rattle.exceptions.specs.Judging.{is_list, Listing, listing_of}
use Rattle.speech.specs.Speech.{judged_call}
use Rattle.tables.specs.Words.{compiled_from}
use Rattle.tables.specs.Walk.{walk_through, walk_for, walk_said}
use Rattle.many_names.specs.Names.{names_in}
use Rattle.many_names.specs.Many.{reply_size, each}
use Rattle.many_names.proofs.Answering.{Fits, delivered-fit}
use Rattle.host.specs.Many.{spoken_all, many_from, none_answered, many_said}

-- the walk gives no more than the lent memory has
pub walk_fits : (image : List ℕ) (l : Listing) (ws ss : List ℕ) → Fits (walk_said image l ws ss)
unfolding walk_for
walk_fits image l ws ss n phones numbers = delivered-fit (judged_call image l n (walk_through (compiled_from ws ss) (edits_of image) (literals_of image) n)) phones numbers

-- ---- the whole call

module _ (image list ws ss names ph nu re : List ℕ) where
  pub many_known : valid image ≡ true → is_list list ≡ true
      → many_said image (listing_of list) ws ss names ph nu re ≡ many_from (spoken_all image (listing_of list) ws ss names ph nu re) re
  unfolding many_said listing_of
  many_known v i = rw (v, i)

  pub many_invalid : valid image ≡ false → many_said image (listing_of list) ws ss names ph nu re ≡ none_answered 0 re ph nu
  unfolding many_said
  many_invalid v = rw v

  pub many_unlisted : valid image ≡ true → is_list list ≡ false → many_said image (listing_of list) ws ss names ph nu re ≡ none_answered 17 re ph nu
  unfolding many_said listing_of
  many_unlisted v i = rw (v, i)

pub all_is : (image : List ℕ) (l : Listing) (ws ss names ph nu re : List ℕ)
    → spoken_all image l ws ss names ph nu re ≡ each (walk_said image l ws ss) (names_in (length re / reply_size) names) ph nu
unfolding spoken_all
all_is image l ws ss names ph nu re = refl
