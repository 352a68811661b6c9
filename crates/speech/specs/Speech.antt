-- What a call that speaks a name gives: its answer and the lent memory after it (document 01, "When a call declines"; document 02, requests 1, 3, 4 and 5).
-- Assumes nothing.
use Rattle.std.specs.Prelude.{ℕ, ◌+◌, ◌≤◌, ◌≡◌, cond, List, [], ◌∷◌, ◌++◌, leb, ltb, length, Result, Ok, Err}
use Rattle.rules.specs.declared.Refusal.{Refusal}
use Rattle.std.proofs.Math.Option.{none, some}
use Rattle.rules.specs.Memory.{over}
use Rattle.rules.specs.Names.{judged_name}
use Rattle.rules.specs.Shape.{Entry}
use Rattle.rules.specs.Refusals.{Reply, accepted, declined, refusal_number, refusal_place}
use Rattle.exceptions.specs.Judging.{Listing}
use Rattle.classes.specs.Classes.{Classes}
use Rattle.image.specs.Image.{valid, entries_of, classes_of}
use Rattle.fitting.specs.Fitting.{Str}
use Rattle.fitting.specs.Reading.{Piece, applied, listed, Reading, finished, uncovered, bad_tables, plain, plain_literal}
use Rattle.speech.specs.Words.{words_in, read_words}
use Rattle.speech.specs.declared.Spoken.{Spoken}

-- ---- what a name comes to before the lent memory is looked at: what is to be said, or a refusal's number and place; and the steps taken

pub data Outcome : Type 0 where
  speaks : List Piece → ℕ → Outcome
  declines : ℕ → ℕ → ℕ → Outcome

-- a refusal before the tables are stepped through
abbrev pub at_once : ℕ → ℕ → Outcome
at_once n p = declines n p 0

abbrev pub steps_of : Outcome → ℕ
steps_of (speaks xs steps) = steps
steps_of (declines n p steps) = steps

-- a reading that took so many steps: 3 keeps them, and 16 has none
abbrev pub answered : Reading → ℕ → Outcome
answered (finished xs) steps = speaks xs steps
answered (uncovered i) steps = declines 3 i steps
answered bad_tables steps = at_once 16 0

-- what is not accepted is refused at once; else it is what follows
abbrev pub judged_by : Reply → Outcome → Outcome
judged_by accepted o = o
judged_by (declined n p) o = at_once n p

-- the list: a name that it gives phones for is said from it, with 0 steps; any other is what follows
abbrev pub said_from : Str → Outcome → Outcome
said_from [] o = o
said_from (x ∷ p) o = speaks (listed (x ∷ p) ∷ []) 0

abbrev pub listed_or : (Str → Str) → Str → Outcome → Outcome
listed_or m name o = said_from (m name) o

-- what follows is made with the list, which is tried for each word of the name
abbrev pub Following : Type 0
Following = (Str → Str) → Outcome

-- 17 where the lent memory is no list, then 2 and 1, then the whole name on the list, then what follows
abbrev pub judged_for : Listing → Str → Following → Outcome
judged_for none name o = at_once 17 0
judged_for (some m) name o = judged_by (judged_name name) (listed_or m name (o m))

-- 0, then these: the order of a call that speaks a name
abbrev pub judged_call : List ℕ → Listing → Str → Following → Outcome
judged_call image l name o = cond (valid image) (judged_for l name o) (at_once 0 0)

-- what a list says of a name or a word; nothing where what is lent is none
abbrev pub said_of : Listing → Str → Str
said_of none w = []
said_of (some m) w = m w

-- what is lent is a list, and the name is not on it
abbrev pub Unlisted : Listing → Str → Type 0
Unlisted none name = ⊥
Unlisted (some m) name = m name ≡ []

-- what is lent is a list, and the name is on it with the phones p
abbrev pub ListedAs : Listing → Str → Str → Type 0
ListedAs none name p = ⊥
ListedAs (some m) name p = (m name ≡ p) × (1 ≤ length p)

-- ---- the answer, and the lent memory after it

-- the phones of what is said, in order
abbrev pub phones_in : Piece → List ℕ
phones_in (applied a) = a.phones
phones_in (listed p) = p

abbrev pub phones_of : List Piece → List ℕ
phones_of [] = []
phones_of (x ∷ xs) = phones_in x ++ phones_of xs

-- the numbers of the rules applied; what is said from the list has none
abbrev pub numbers_in : Piece → List ℕ
numbers_in (applied a) = a.number ∷ []
numbers_in (listed p) = []

abbrev pub numbers_of : List Piece → List ℕ
numbers_of [] = []
numbers_of (x ∷ xs) = numbers_in x ++ numbers_of xs

-- a reached letter is contested where more than one rule fits; what is said from the list is not reached
abbrev pub contested_in : Piece → ℕ
contested_in (applied a) = cond (ltb 1 a.fitting) 1 0
contested_in (listed p) = 0

abbrev pub contested_of : List Piece → ℕ
contested_of [] = 0
contested_of (x ∷ xs) = contested_in x + contested_of xs

-- an answer: how many phones and how many rule numbers were given, and how many letters were contested; or a refusal's number and place
pub data Told : Type 0 where
  spoken : ℕ → ℕ → ℕ → Told
  refused : ℕ → ℕ → Told

abbrev pub told_of : Result Spoken Refusal → Told
told_of (Ok s) = spoken s.phones s.numbers s.contested
told_of (Err x) = refused (refusal_number x) (refusal_place x)

-- all that a call gives: its answer, the lent phones and the lent numbers after it
pub record Said : Type 0 where
  pub told : Told
  pub phones : List ℕ
  pub numbers : List ℕ

abbrev pub saying : Told → List ℕ → List ℕ → Said
saying t phones numbers = record { told = t; phones = phones; numbers = numbers }

-- 4 and 5: what is to be said goes into the lent memory where it has room; a refusal writes nothing
abbrev pub delivered : Outcome → List ℕ → List ℕ → Said
delivered (declines n p steps) phones numbers = saying (refused n p) phones numbers
delivered (speaks xs steps) phones numbers =
    cond (leb (length (phones_of xs)) (length phones))
    (cond (leb (length (numbers_of xs)) (length numbers))
    (saying (spoken (length (phones_of xs)) (length (numbers_of xs)) (contested_of xs)) (over (phones_of xs) phones) (over (numbers_of xs) numbers))
    (saying (refused 5 (length (numbers_of xs))) phones numbers))
    (saying (refused 4 (length (phones_of xs))) phones numbers)

-- so is a listed name said: the phones p at the front of the lent bytes, no number and no contested letter, or 4 with the phones needed
-- (listed-delivered, proofs/ListedNames.antt)
abbrev pub saying_listed : Str → List ℕ → List ℕ → Said
saying_listed p phones numbers =
    cond (leb (length p) (length phones)) (saying (spoken (length p) 0 0) (over p phones) numbers) (saying (refused 4 (length p)) phones numbers)

-- the plain reading of a name's words, with the list m
abbrev pub plain_words : Classes → List Entry → Str → (Str → Str) → Reading
plain_words k rules name m = read_words m (plain k rules) (words_in name)

-- the same with literal rules
abbrev pub literal_words : List Entry → Str → (Str → Str) → Reading
literal_words rules name m = read_words m (plain_literal rules) (words_in name)

-- the plain reading of a name with a ruleset and a list in lent memory takes no steps: 0, 17, 2, 1, the list, 3, 4, 5
abbrev pub plain_outcome : List ℕ → Listing → Str → Outcome
plain_outcome image l name = judged_call image l name (λ m. answered (plain_words (classes_of image) (entries_of image) name m) 0)

unfoldable pub plain_said : List ℕ → Listing → Str → List ℕ → List ℕ → Said
plain_said image l name phones numbers = delivered (plain_outcome image l name) phones numbers
