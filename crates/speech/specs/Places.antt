-- Definitions that this crate's inner functions are described by: parts of what is said, and what a function found.
-- Assumes nothing.
use Rattle.std.specs.Prelude.{ℕ, ◌+◌, ◌-◌, ◌*◌, ◌/◌, ◌%◌, ◌≤◌, ◌<◌, ◌≡◌, cond, List, [], ◌∷◌, map, ltb, length, get_or, take, Option, Some, None, Result, Err, Ok}
use Rattle.std.proofs.Math.Seq.{paste}
use Rattle.rules.specs.Limits.{max_rules, max_name}
use Rattle.exceptions.specs.Layout.{words_of, phones_ending}
use Rattle.exceptions.specs.Judging.{says_of, KnownList, StateOf}
use Rattle.rules.specs.Names.{SoundName}
use Rattle.image.specs.Image.{count_of, entry_at}
use Rattle.fitting.specs.Fitting.{Str}
use Rattle.fitting.specs.Reading.{Application, apply, Choice, Piece, applied, listed, Reading, finished, uncovered, bad_tables, after, read_from}
use Rattle.speech.specs.Speech.{speaks, told_of, saying, phones_in, phones_of, numbers_in, numbers_of, contested_in, contested_of, delivered}
use Rattle.rules.specs.declared.Refusal.{Refusal}
use Rattle.speech.specs.declared.Spoken.{Spoken}
use Rattle.speech.specs.declared.Unread.{Unread}
use Rattle.speech.specs.declared.Unread.TheVariants.{Uncovered, BadTables}

-- a part as a number: the place of a rule, with 2^16 times how many rules fit there; or, from 512 on, a state of the list in which a listed word ends
abbrev pub part_size : ℕ
part_size = 65536

abbrev pub part_of : ℕ → ℕ → ℕ
part_of place fitting = place + part_size * fitting

abbrev pub place_in : ℕ → ℕ
place_in p = p % part_size

abbrev pub fitting_in : ℕ → ℕ
fitting_in p = p / part_size

-- the rule of a part, applied
abbrev pub apply_at : List ℕ → ℕ → Application
apply_at image p = apply (fitting_in p) (entry_at image (place_in p))

-- the pieces that such parts give
abbrev pub piece_at : List ℕ → ℕ → Piece
piece_at image p = applied (apply_at image p)

abbrev pub pieces_at : List ℕ → List ℕ → List Piece
pieces_at image ps = map (piece_at image) ps

-- each is one of the image's rules
abbrev pub Within : List ℕ → List ℕ → Type 0
Within image ps = (k : ℕ) → k < length ps → place_in (get_or ps k 0) < count_of image

-- ---- a word: the rules applied

-- the reading that parts of applied rules stand for
abbrev pub reading_of : List ℕ → List ℕ → Result ℕ Unread → Reading
reading_of image ps (Ok k) = finished (pieces_at image (take k ps))
reading_of image ps (Err (Uncovered i)) = uncovered i
reading_of image ps (Err BadTables) = bad_tables

-- reading ended with no more than n rules, or no later than at n
abbrev pub EndsBy : ℕ → Result ℕ Unread → Type 0
EndsBy n (Ok k) = k ≤ n
EndsBy n (Err (Uncovered i)) = i ≤ n
EndsBy n (Err BadTables) = Unit {0}

-- each rule applied to a word of n letters is one of the image, and there are no more than letters; a letter without a rule is one of the n
pub record Placed (image : List ℕ) (n : ℕ) (ps : List ℕ) (r : Result ℕ Unread) : Type 0 where
  pub room : n ≤ length ps
  pub few : EndsBy n r
  pub within : (k : ℕ) → r ≡ Ok k → Within image (take k ps)

-- what reading n letters by a choice gives, with the parts of the rules applied in lent memory
pub record ReadBy (image : List ℕ) (choose : ℕ → Choice) (n : ℕ) (ps : List ℕ) (r : Result ℕ Unread) : Type 0 where
  pub placed : Placed image n ps r
  pub says : reading_of image ps r ≡ read_from choose n n 1

-- ---- a name: parts said by rules or from the list

-- a sound name that the lent list does not say; the list is known to be one, or too few words for any
pub record Unsaid (list : List ℕ) (name : Str) : Type 0 where
  pub known : KnownList list
  pub sound : SoundName name
  pub absent : says_of list name ≡ []

-- what a part stands for
abbrev pub part_at : List ℕ → List ℕ → ℕ → Piece
part_at image list p = cond (ltb (place_in p) max_rules) (piece_at image p) (listed (phones_ending (words_of list) (place_in p - max_rules)))

abbrev pub parts_at : List ℕ → List ℕ → List ℕ → List Piece
parts_at image list ps = map (part_at image list) ps

-- it is a rule of the image, or a state of the list
pub record PartIn (image list : List ℕ) (p : ℕ) : Type 0 where
  pub rule : place_in p < max_rules → place_in p < count_of image
  pub state : max_rules ≤ place_in p → StateOf list (place_in p - max_rules)

abbrev pub PartsIn : List ℕ → List ℕ → List ℕ → Type 0
PartsIn image list ps = (k : ℕ) → k < length ps → PartIn image list (get_or ps k 0)

-- how many of them are rules
abbrev pub rules_among : List ℕ → ℕ
rules_among [] = 0
rules_among (p ∷ ps) = cond (ltb (place_in p) max_rules) 1 0 + rules_among ps

-- no more parts than positions of the longest frame
abbrev pub frame_size : ℕ
frame_size = max_name + 2

-- a part's phones and numbers are laid after those given before, and counted with them, and so is its letter where it is contested
pub record PartGiven (x : Piece) (from : Spoken) (phones numbers : List ℕ) (to : Spoken) (phones' numbers' : List ℕ) : Type 0 where
  pub phone : to.phones ≡ from.phones + length (phones_in x)
  pub number : to.numbers ≡ from.numbers + length (numbers_in x)
  pub contested : to.contested ≡ from.contested + contested_in x
  pub phones-are : phones' ≡ paste phones from.phones (phones_in x) (length (phones_in x))
  pub numbers-are : numbers' ≡ paste numbers from.numbers (numbers_in x) (length (numbers_in x))

-- all that parts have given
pub record AllGiven (xs : List Piece) (r : Spoken) : Type 0 where
  pub phones : r.phones ≡ length (phones_of xs)
  pub numbers : r.numbers ≡ length (numbers_of xs)
  pub contested : r.contested ≡ contested_of xs

-- the part that the list gives for a word, 0 where it gives none
pub record FoundFor (list : List ℕ) (w : Str) (p : ℕ) : Type 0 where
  pub none : p ≡ 0 → says_of list w ≡ []
  pub state : 0 < p → (max_rules ≤ p) × StateOf list (p - max_rules)
  pub says : 0 < p → phones_ending (words_of list) (p - max_rules) ≡ says_of list w
  pub some : 0 < p → 1 ≤ length (says_of list w)

-- the reading that parts stand for
abbrev pub parts_reading : List ℕ → List ℕ → List ℕ → Result ℕ Unread → Reading
parts_reading image list ps (Ok k) = finished (parts_at image list (take k ps))
parts_reading image list ps (Err (Uncovered i)) = uncovered i
parts_reading image list ps (Err BadTables) = bad_tables

pub record Parted (image list : List ℕ) (most : ℕ) (ps : List ℕ) (r : Result ℕ Unread) : Type 0 where
  pub sized : length ps ≡ frame_size
  pub few : EndsBy most r
  pub within : (k : ℕ) → r ≡ Ok k → PartsIn image list (take k ps)

-- the parts that were found before position b
pub record PartsSoFar (image list ps : List ℕ) (count b : ℕ) : Type 0 where
  pub sized : length ps ≡ frame_size
  pub few : count ≤ b
  pub within : PartsIn image list (take count ps)

-- what reading on gives after the pieces xs, with no more than `most` parts in lent memory
pub record ReadOn (image list : List ℕ) (xs : List Piece) (reading : Reading) (most : ℕ) (ps : List ℕ) (r : Result ℕ Unread) : Type 0 where
  pub parted : Parted image list most ps r
  pub says : parts_reading image list ps r ≡ after xs reading

-- how reading ended in a word, as it ended in the name: `count` parts and b bytes are before the word
abbrev pub ended_in : ℕ → ℕ → Result ℕ Unread → Result ℕ Unread
ended_in count b (Ok k) = Ok (count + k)
ended_in count b (Err (Uncovered i)) = Err (Uncovered (b + i))
ended_in count b (Err BadTables) = Err BadTables

-- ---- the whole name on the list

-- what looking up a name gives, of which the list says the phones p: an answer made of them, whatever the lent numbers are, or nothing
abbrev pub SaysListed : Str → List ℕ → List ℕ → Option (Result Spoken Refusal) → Type 0
SaysListed p phones after (Some s) = (1 ≤ length p) × ((numbers : List ℕ) → saying (told_of s) after numbers ≡ delivered (speaks (listed p ∷ []) 0) phones numbers)
SaysListed p phones after None = (p ≡ []) × (after ≡ phones)
