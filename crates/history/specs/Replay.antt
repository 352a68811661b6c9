-- A list of edits from the empty ruleset, one after the other: all that a replay gives, and what the ledger says of it.
-- Assumes nothing.
use Rattle.std.specs.Prelude.{ℕ, ◌*◌, ◌<◌, ◌/◌, min, ◌≡◌, List, map, true, length, get_or}
use Rattle.rules.specs.Memory.{over, Below, word_bound}
use Rattle.rules.specs.Refusals.{Reply, accepted, declined, reply_code, reply_place}
use Rattle.image.specs.State.{start}
use Rattle.image.specs.Image.{edits_of, ledger_of, valid, cleared}
use Rattle.edits.specs.Ledger.{Edit, after_all, answers_all, issued, counted}
use Rattle.edits.specs.Edits.{out_all, image_all, issued_in}
use Rattle.history.specs.Code.{edit_words, coded_edits, pool_of, words_all}

-- how many edits are taken: as many as are coded and have room for the code and the place of their answer
abbrev pub turns : ℕ → ℕ → ℕ → ℕ
turns code answers places = min (code / edit_words) (min answers places)

-- they, of a code and its pool of letters
abbrev pub taken : List ℕ → List ℕ → List ℕ → List ℕ → List Edit
taken code letters answers places = coded_edits (turns (length code) (length answers) (length places)) letters code

-- the answer of the call, the image, and the codes and the places of the edits' answers
pub record Replay : Type 0 where
  pub reply : Reply
  pub image : List ℕ
  pub answers : List ℕ
  pub places : List ℕ

abbrev pub replaying : Reply → List ℕ → List ℕ → List ℕ → Replay
replaying a image answers places = record { reply = a; image = image; answers = answers; places = places }

-- the edits es on an image: the image after them, and the code and the place of each answer; what lies past them keeps its contents
abbrev pub through : List Edit → List ℕ → List ℕ → List ℕ → Replay
through es image answers places =
    replaying accepted (image_all image es) (over (map reply_code (out_all image es)) answers) (over (map reply_place (out_all image es)) places)

-- the edits es on an image that was cleared with this answer: a refusal ends the call
abbrev pub through_by : Reply → List Edit → List ℕ → List ℕ → List ℕ → Replay
through_by accepted es image answers places = through es image answers places
through_by (declined n p) es image answers places = replaying (declined n p) image answers places

-- from the empty ruleset, in memory that held anything; memory too short for a ruleset is refused and kept
unfoldable pub replayed : List ℕ → List ℕ → List ℕ → List ℕ → List ℕ → Replay
replayed image code letters answers places =
    through_by (cleared image).reply (taken code letters answers places) (cleared image).image answers places

-- the numbers that the accepted additions among the edits got, from the empty ruleset in memory that held anything
abbrev pub issued_from_empty : List ℕ → List Edit → List ℕ
issued_from_empty image es = issued_in (cleared image).image es

-- The claim over the edits es from the empty ruleset, in memory that held image₀, answers₀ and places₀: what is held and what was answered.
pub record FromEmpty (es : List Edit) (image₀ answers₀ places₀ : List ℕ) (r : Replay) : Type 0 where
  -- the memory holds a ruleset, whose rules, last, classes and edit count are the ledger's
  pub kept : valid r.image ≡ true
  pub state : ledger_of r.image ≡ after_all start es
  -- it counts the accepted additions, drops and moves
  pub edits : edits_of r.image ≡ counted start es
  -- each answer is the ledger's: a refusal's number with its place; what lies past them keeps its contents
  pub answers : r.answers ≡ over (map reply_code (answers_all start es)) answers₀
  pub places : r.places ≡ over (map reply_place (answers_all start es)) places₀
  -- the numbers that accepted additions got, the image's last after each, are the ledger's
  pub numbers : issued_from_empty image₀ es ≡ issued start es
  -- no two of them got the same number
  pub apart : (i j : ℕ) → i < j → j < length (issued_from_empty image₀ es)
      → get_or (issued_from_empty image₀ es) i 0 ≡ get_or (issued_from_empty image₀ es) j 0 → ⊥

-- what a call of replay gives
pub record Replayed (image code letters answers places : List ℕ) (r : Replay) : Type 0 where
  pub whole : r ≡ replayed image code letters answers places
  pub claim : r.reply ≡ accepted → FromEmpty (taken code letters answers places) image answers places r

-- The list es, coded and replayed.
pub record ReplayedList (es : List Edit) (image answers places : List ℕ) : Type 0 where
  -- its code is a slice of words and its letters are one of bytes, so a call can be lent them
  pub size : length (words_all es) ≡ length es * edit_words
  pub words : Below word_bound (words_all es)
  pub letters : Below 256 (pool_of es)
  -- the edits taken are the list, the call is accepted, and the claim holds of what it gives
  pub whole : taken (words_all es) (pool_of es) answers places ≡ es
  pub reply : (replayed image (words_all es) (pool_of es) answers places).reply ≡ accepted
  pub claim : FromEmpty es image answers places (replayed image (words_all es) (pool_of es) answers places)
