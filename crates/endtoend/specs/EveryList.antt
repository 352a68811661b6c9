-- Demand 3 of document 01 over the list of edits itself: for every list of edits, the tables built after it and every name, with whatever memory and
-- exceptions list are lent. `EndToEnd` says it of the edits that a lent code says; here the code is the list's own.
-- Assumes nothing.
use Rattle.std.specs.Prelude.{◌≤◌, ◌<◌, ◌≡◌, List, length}
use Rattle.rules.specs.Memory.{Below, word_bound}
use Rattle.exceptions.specs.Judging.{listing_of}
use Rattle.edits.specs.Ledger.{Edit}
use Rattle.history.specs.Code.{pool_of, words_all, TypedAll}
use Rattle.history.specs.Replay.{Replay, replayed}
use Rattle.speech.specs.Speech.{plain_said}
use Rattle.tables.specs.Words.{Built, built}
use Rattle.tables.specs.Walk.{walk_said}
use Rattle.endtoend.specs.EndToEnd.{Lent, Given, given, Enough, Claim, EndToEnd}

-- what the four calls give by their definitions, each on the memory that the ones before left
abbrev pub replay_in : Lent → Replay
replay_in m = replayed m.image m.code m.letters m.answers m.places

abbrev pub build_in : Lent → Built
build_in m = built (replay_in m).image m.words m.sets

abbrev pub calls_in : Lent → Given
calls_in m =
    given (replay_in m) (build_in m) (plain_said (replay_in m).image (listing_of m.list) m.name m.«plain-phones» m.«plain-numbers»)
    (walk_said (replay_in m).image (listing_of m.list) (build_in m).words (build_in m).sets m.name m.«walk-phones» m.«walk-numbers»)

-- The list es is lent: its edits have arguments of the functions' types, a slice can hold the letters of all its classes, the code and the letters in m
-- are the list's own, and each answer has room.
pub record Lends (es : List Edit) (m : Lent) : Type 0 where
  pub typed : TypedAll es
  pub few-letters : length (pool_of es) < word_bound
  pub code : m.code ≡ words_all es
  pub letters : m.letters ≡ pool_of es
  pub answers : length es ≤ length m.answers
  pub places : length es ≤ length m.places

pub record ForList (es : List Edit) (m : Lent) : Type 0 where
  -- its code is a slice of words and its letters are one of bytes, so that a call can be lent them
  pub code : Below word_bound (words_all es)
  pub letters : Below 256 (pool_of es)
  -- of whatever `endtoend::run` gives, the claim holds with this very list
  pub run : (g : Given) → EndToEnd m g → Claim es m g
  -- and so it does of what the definitions give
  pub defined : Claim es m (calls_in m)

-- every list of edits; every memory, exceptions list and name that are lent with it
abbrev pub ForEveryList : Type 0
ForEveryList = (es : List Edit) (m : Lent) → Lends es m → Enough es m → ForList es m
