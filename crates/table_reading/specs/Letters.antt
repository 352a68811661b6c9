-- What is found at a reached letter by the sets of two states.
-- Assumes nothing.
use Rattle.std.specs.Prelude.{ℕ, ◌+◌, ◌-◌, ◌*◌, ◌≤◌, ◌<◌, ◌≡◌, List, [], ◌++◌, length, get_or, take, drop, set, Option, Some, None, Result, Ok, Err}
use Rattle.std.proofs.Math.Option.{Option as Maybe, none, some}
use Rattle.rules.specs.Limits.{max_rules}
use Rattle.image.specs.Image.{count_of, entry_at, literals_of}
use Rattle.exceptions.specs.Judging.{says_of}
use Rattle.fitting.specs.Fitting.{Str, frame, fits}
use Rattle.fitting.specs.Reading.{apply, Choice, chosen, nothing, unusable, Reading, read_from}
use Rattle.speech.specs.Words.{words_in, read_words, word_at, Starts}
use Rattle.speech.specs.Places.{frame_size, FoundFor, ended_in, ReadBy, ReadOn}
use Rattle.speech.specs.declared.Unread.{Unread}
use Rattle.tables.specs.Words.{set_size}
use Rattle.tables.specs.Walk.{lookup}
use Rattle.tables.specs.SetWords.{lowest_from, ones_from, meet_word}
use Rattle.table_reading.specs.declared.Chosen.{Chosen}
use Rattle.table_reading.specs.declared.Chosen.TheVariants.{Rule, Nothing}
use Rattle.table_reading.specs.declared.Unusable.{Unusable}

-- the place found in the words of two sets
abbrev pub found_of : Maybe ℕ → Option ℕ
found_of none = None
found_of (some p) = Some p

-- the lowest place that the sets from set words s and t on share
abbrev pub lowest_shared : List ℕ → ℕ → ℕ → Maybe ℕ
lowest_shared ss s t = lowest_from (meet_word ss s t) 0 set_size

-- how many places they share
abbrev pub count_shared : List ℕ → ℕ → ℕ → ℕ
count_shared ss s t = ones_from (meet_word ss s t) 0 set_size

-- the choice at position i of the frame f by these two sets
unfoldable pub choice_by : List ℕ → List ℕ → ℕ → ℕ → List ℕ → ℕ → Choice
choice_by image ss s t f i = lookup (λ e. fits e.rule f i) (count_shared ss s t) (literals_of image) (lowest_shared ss s t)

-- what the answer says
abbrev pub choice_of : List ℕ → Result Chosen Unusable → Choice
choice_of image (Ok (Rule p n k)) = chosen (apply n (entry_at image p))
choice_of image (Ok Nothing) = nothing
choice_of image (Err u) = unusable

-- the answer says the choice at position i, and where reading goes on from there
pub record Chooses (image : List ℕ) (choice : Choice) (i : ℕ) (r : Result Chosen Unusable) : Type 0 where
  pub is : choice_of image r ≡ choice
  pub inside : (p n k : ℕ) → r ≡ Ok (Rule p n k) → (p < count_of image) × ((n ≤ max_rules) × (k ≡ i + length (entry_at image p).rule.target))

-- the choice at each position, by the remembered states; the right sets begin at set word `base`
abbrev pub choices_by : List ℕ → List ℕ → ℕ → List ℕ → List ℕ → List ℕ → ℕ → Choice
choices_by image ss base left right f i = choice_by image ss (set_size * get_or left i 0) (base + set_size * get_or right i 0) f i

-- the states remembered for the letters 1 to n, each of which has a set
pub record Bounded (size base n : ℕ) (left right : List ℕ) : Type 0 where
  pub left-room : n < length left
  pub right-room : n < length right
  pub lefts : (k : ℕ) → 1 ≤ k → k ≤ n → set_size * get_or left k 0 + set_size ≤ size
  pub rights : (k : ℕ) → 1 ≤ k → k ≤ n → base + set_size * get_or right k 0 + set_size ≤ size

-- ---- the words of a name

-- the elements from the b-th on, and those of them before the e-th: `&l[b..]` and `&l[b..e]`
abbrev pub suffix : ℕ → List ℕ → List ℕ
suffix b l = take (length l - b) (drop b l)

abbrev pub between : ℕ → ℕ → List ℕ → List ℕ
between b e l = take (e - b) (drop b l)

-- the rules applied to the letters of a word that follows b bytes, laid after `count` parts
pub record LettersRead (image : List ℕ) (choose : ℕ → Choice) (n count b : ℕ) (before after : List ℕ) (r : Result ℕ Unread) : Type 0 where
  pub parts : List ℕ
  pub laid : after ≡ take count before ++ parts
  pub reached : Result ℕ Unread
  pub by : ReadBy image choose n parts reached
  pub ended : r ≡ ended_in count b reached

-- what reading one word gives: its part where the list gives one, else the rules applied
pub record WordRead (image : List ℕ) (choose : ℕ → Choice) (n count b part : ℕ) (before after : List ℕ) (r : Result ℕ Unread) : Type 0 where
  pub sized : length after ≡ length before
  pub listed : 0 < part → (after ≡ set before count part) × (r ≡ Ok (count + 1))
  pub read : part ≡ 0 → LettersRead image choose n count b before after r

-- the sets of the states remembered for the letters of unlisted words lie in the set words
abbrev pub Held : ℕ → ℕ → Str → List ℕ → List ℕ → List ℕ → Type 0
Held size base name found left right =
    (b : ℕ) → b ≤ length name → Starts name b → get_or found b 0 ≡ 0 → (k : ℕ) → 1 ≤ k → k ≤ length (word_at name b)
    → (set_size * get_or left (b + k) 0 + set_size ≤ size) × (base + set_size * get_or right (b + k) 0 + set_size ≤ size)

-- `found` has the parts that a list gives for the words of a name, and `read` is what the states remembered for the letters of the others choose
pub record Tells (image ss : List ℕ) (base : ℕ) (name : Str) (found left right list : List ℕ) (read : Str → Reading) : Type 0 where
  pub parts : (b : ℕ) → b ≤ length name → Starts name b → FoundFor list (word_at name b) (get_or found b 0)
  pub reads : (b : ℕ) → b ≤ length name → Starts name b → get_or found b 0 ≡ 0
      → read_from (choices_by image ss base (drop b left) (drop b right) (frame (word_at name b))) (length (word_at name b)) (length (word_at name b)) 1 ≡ read (word_at name b)

-- what reading the words in turn gives, for any list and reading that the memory tells of
abbrev pub NameRead : List ℕ → List ℕ → ℕ → Str → List ℕ → List ℕ → List ℕ → List ℕ → Result ℕ Unread → Type 0
NameRead image ss base name found left right ps r =
    (list : List ℕ) (read : Str → Reading) → Tells image ss base name found left right list read
    → ReadOn image list [] (read_words (says_of list) read (words_in name)) frame_size ps r

-- no more parts than letters, and one more
abbrev pub FewParts : Str → Result ℕ Unread → Type 0
FewParts name r = (k : ℕ) → r ≡ Ok k → k ≤ length name + 1
