-- What a plain reading comes to, in Festival's meaning: of a word, of a name's words, and of a call that is refused for want of a rule.
-- Assumes nothing.
use Rattle.std.specs.Prelude.{ℕ, ◌≡◌, true, List}
use Rattle.rules.specs.Names.{SoundName}
use Rattle.rules.specs.Shape.{Entry}
use Rattle.classes.specs.Classes.{Classes}
use Rattle.exceptions.specs.Judging.{Listing}
use Rattle.image.specs.Image.{valid, entries_of, classes_of}
use Rattle.fitting.specs.Fitting.{Str}
use Rattle.fitting.specs.Reading.{Application, Piece, finished, uncovered, plain}
use Rattle.speech.specs.Words.{Word, words_in, read_words}
use Rattle.speech.specs.Speech.{said_of, Unlisted}
use Rattle.reading.specs.Meaning.{Reads, pieces_of, SaidWords, UncoveredIn}

-- what is read of the word w to the end is read by rules, and the reading by them ends
pub record ReadTo (k : Classes) (rules : List Entry) (w : Str) (xs : List Piece) : Type 0 where
  pub rs : List Application
  pub are : xs ≡ pieces_of rs
  pub reads : Reads k rules w rs

-- the words are said in turn, or reading stops at a reached letter of an unlisted word that no rule covers
pub data WordsEnding (k : Classes) (rules : List Entry) (m : Str → Str) (ws : List Word) : Type 0 where
  finish : (xs : List Piece) → SaidWords k rules m ws xs → read_words m (plain k rules) ws ≡ finished xs → WordsEnding k rules m ws
  stop : (i : ℕ) → UncoveredIn k rules m ws i → read_words m (plain k rules) ws ≡ uncovered i → WordsEnding k rules m ws

-- a call ends at i for want of a rule: it is not refused before it reads, the name is not on the list, and no rule covers the letter at i of its words
pub record WantsRule (image : List ℕ) (l : Listing) (name : Str) (i : ℕ) : Type 0 where
  pub is-valid : valid image ≡ true
  pub is-sound : SoundName name
  pub unlisted : Unlisted l name
  pub bare : UncoveredIn (classes_of image) (entries_of image) (said_of l) (words_in name) i
