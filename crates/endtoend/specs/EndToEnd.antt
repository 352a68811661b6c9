-- Demand 3 of document 01, as one claim: a list of edits from the empty ruleset, the tables built after it in memory that held anything,
-- and a name of any number of words, read plainly and walked through those tables, with a lent exceptions list (document 02, requests 1 and 3
-- to 6). The tables are those of the literal rules, the plain reading reads the rules and their classes.
-- Assumes nothing.
use Rattle.std.specs.Prelude.{ℕ, ◌+◌, ◌*◌, ◌≤◌, ◌≡◌, cond, List, [], leb, length, take}
use Rattle.rules.specs.Names.{SoundName}
use Rattle.rules.specs.Shape.{Entry}
use Rattle.rules.specs.Refusals.{accepted}
use Rattle.classes.specs.Expansion.{expand}
use Rattle.exceptions.specs.Judging.{listing_of}
use Rattle.image.specs.State.{Ledger, start, rules_of}
use Rattle.image.specs.Image.{image_size}
use Rattle.edits.specs.Ledger.{Edit, after_all, counted}
use Rattle.history.specs.Replay.{taken, Replay, FromEmpty, Replayed}
use Rattle.fitting.specs.Fitting.{Str}
use Rattle.speech.specs.Words.{Word, words_in, unlisted, steps_for}
use Rattle.speech.specs.Speech.{Told, spoken, refused, said_of, Unlisted, ListedAs, Said, plain_said}
use Rattle.tables.specs.Words.{edits_in, words_for, sets_for, Built, built}
use Rattle.tables.specs.Walk.{Walked, walk_said}

-- what a call tells its caller: a refusal's number and place, or its phones and its rule numbers, in order, and how many letters were contested
pub data Result : Type 0 where
  phones : List ℕ → List ℕ → ℕ → Result
  refusal : ℕ → ℕ → Result

abbrev pub result_as : Told → List ℕ → List ℕ → Result
result_as (spoken p n c) ps ns = phones (take p ps) (take n ns) c
result_as (refused n p) ps ns = refusal n p

abbrev pub result : Said → Result
result s = result_as s.told s.phones s.numbers

-- what is told of a name that the list gives the phones p: them, no number and no contested letter, or 4 where there is no room for them
abbrev pub from_list : Str → ℕ → Result
from_list p room = cond (leb (length p) room) (phones p [] 0) (refusal 4 (length p))

-- all lent memory as it was, in the order of the function's parameters
pub record Lent : Type 0 where
  pub image : List ℕ
  pub list : List ℕ
  pub code : List ℕ
  pub letters : List ℕ
  pub answers : List ℕ
  pub places : List ℕ
  pub words : List ℕ
  pub sets : List ℕ
  pub name : Str
  pub «plain-phones» : List ℕ
  pub «plain-numbers» : List ℕ
  pub «walk-phones» : List ℕ
  pub «walk-numbers» : List ℕ

abbrev pub lent : List ℕ → List ℕ → List ℕ → List ℕ → List ℕ → List ℕ → List ℕ → List ℕ → Str → List ℕ → List ℕ → List ℕ → List ℕ → Lent
lent image list code letters answers places words sets name pp pn wp wn =
    record {
      image = image;
      list = list;
      code = code;
      letters = letters;
      answers = answers;
      places = places;
      words = words;
      sets = sets;
      name = name;
      «plain-phones» = pp;
      «plain-numbers» = pn;
      «walk-phones» = wp;
      «walk-numbers» = wn;
    }

-- all that the calls gave: each its answer and the lent memory after it
pub record Given : Type 0 where
  pub replay : Replay
  pub build : Built
  pub plain : Said
  pub walk : Walked

abbrev pub given : Replay → Built → Said → Walked → Given
given r b p w = record { replay = r; build = b; plain = p; walk = w }

-- the state that the ledger has after the edits es, and its literal rules
abbrev pub ledger_after : List Edit → Ledger
ledger_after es = after_all start es

abbrev pub literals_after : List Edit → List Entry
literals_after es = expand (ledger_after es).classes (rules_of (ledger_after es))

-- the words of the name that the lent list does not say
abbrev pub unlisted_words : Lent → List Word
unlisted_words m = unlisted (said_of (listing_of m.list)) (words_in m.name)

-- the memory is long enough for a ruleset and for the tables of the literal rules after the edits es, and both readings are lent as much
pub record Enough (es : List Edit) (m : Lent) : Type 0 where
  pub image : image_size ≤ length m.image
  pub words : words_for (literals_after es) ≤ length m.words
  pub sets : sets_for (literals_after es) ≤ length m.sets
  pub phones : length m.«walk-phones» ≡ length m.«plain-phones»
  pub numbers : length m.«walk-numbers» ≡ length m.«plain-numbers»

-- what the calls gave, of the edits es from the empty ruleset and of the name
pub record Claim (es : List Edit) (m : Lent) (g : Given) : Type 0 where
  -- each answer with its place, and the ruleset after, are the ledger's; no number was given twice
  pub edits : FromEmpty es m.image m.answers m.places g.replay
  -- the tables were built, and carry the count of the accepted additions, drops and moves, which the walk compares
  pub tables : g.build.reply ≡ accepted
  pub carried : edits_in g.build.words ≡ counted start es
  -- walk and plain reading are alike in phones, rule numbers and contested letters, of listed names and all others, and where the lent list is none
  pub alike : result g.walk.said ≡ result g.plain
  -- the steps counted for a name that is not on the list are 2 |w| + 2 for each of its words that is not
  pub steps : SoundName m.name → Unlisted (listing_of m.list) m.name → g.walk.steps ≡ steps_for (unlisted_words m)
  -- which is 2n + 2 where no word is on it
  pub all_steps : SoundName m.name → Unlisted (listing_of m.list) m.name → unlisted_words m ≡ words_in m.name → g.walk.steps ≡ 2 * length m.name + 2
  -- a name on the list is said from it, with no steps
  pub listed : SoundName m.name → (p : Str) → ListedAs (listing_of m.list) m.name p
      → (result g.plain ≡ from_list p (length m.«plain-phones»)) × (g.walk.steps ≡ 0)

-- the edits that the lent code says
abbrev pub taken_edits : Lent → List Edit
taken_edits m = taken m.code m.letters m.answers m.places

pub record EndToEnd (m : Lent) (g : Given) : Type 0 where
  -- each call got the ruleset, and the walk the tables, as the calls before left them
  pub replayed : Replayed m.image m.code m.letters m.answers m.places g.replay
  pub built_after : g.build ≡ built g.replay.image m.words m.sets
  pub read : g.plain ≡ plain_said g.replay.image (listing_of m.list) m.name m.«plain-phones» m.«plain-numbers»
  pub walked : g.walk ≡ walk_said g.replay.image (listing_of m.list) g.build.words g.build.sets m.name m.«walk-phones» m.«walk-numbers»
  pub claim : Enough (taken_edits m) m → Claim (taken_edits m) m g
