-- What tables are worth after edits (document 02, request 6): which names need them, and what is known of tables that were built before a list of edits.
-- Assumes nothing.
use Rattle.std.specs.Prelude.{ℕ, ◌≤◌, ◌≡◌, List, []}
use Rattle.rules.specs.Names.{SoundName}
use Rattle.exceptions.specs.Judging.{Listing}
use Rattle.image.specs.Image.{ledger_of}
use Rattle.edits.specs.Ledger.{Edit, counted}
use Rattle.edits.specs.Edits.{image_all}
use Rattle.fitting.specs.Fitting.{Str}
use Rattle.speech.specs.Words.{words_in, unlisted}
use Rattle.speech.specs.Speech.{at_once, said_of, Unlisted}
use Rattle.tables.specs.Words.{built}
use Rattle.tables.specs.Walk.{walkedAs, walk_said}

-- a name that needs tables: it is one, it is not on the list, and some word of it is not
pub record NeedsTables (l : Listing) (name : Str) : Type 0 where
  pub sound : SoundName name
  pub whole : Unlisted l name
  pub word : unlisted (said_of l) (words_in name) ≡ [] → ⊥

-- the tables built of an image into memory that held ws and ss, after the edits es of that image
pub record BuiltBefore (es : List Edit) (image ws ss : List ℕ) : Type 0 where
  -- where an addition, drop or move among them was accepted, a walk through the tables is 22 for every name that needs them: at once, with all lent
  -- memory as it was
  pub stale : 1 ≤ counted (ledger_of image) es → (l : Listing) (name : Str) (phones numbers : List ℕ) → NeedsTables l name
      → walk_said (image_all image es) l (built image ws ss).words (built image ws ss).sets name phones numbers ≡ walkedAs (at_once 22 0) phones numbers
  -- where none was, as with refused edits and with classes set, they are the tables of the ruleset as it is now
  pub good : counted (ledger_of image) es ≡ 0 → built (image_all image es) ws ss ≡ built image ws ss
