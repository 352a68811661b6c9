-- Reading a word: document 01, "Letters, rules, fitting", last bullet; document 02, requests 4 and 5. The choice at a reached letter is a parameter,
-- since the walk reads in the same way and chooses through its tables.
-- Assumes nothing.
use Rattle.std.specs.Prelude.{ℕ, zero, suc, ◌+◌, ◌<◌, Bool, cond, List, [], ◌∷◌, ◌++◌, ltb, length, get_or}
use Rattle.rules.specs.Shape.{Entry}
use Rattle.classes.specs.Classes.{Classes}
use Rattle.image.specs.State.{no_entry}
use Rattle.fitting.specs.Fitting.{Str, frame, fits_by, fits}

-- what a rule gives where it is applied, whatever its contexts are, and how many rules fit there
pub record Application : Type 0 where
  pub number : ℕ
  pub target : List ℕ
  pub phones : List ℕ
  pub fitting : ℕ

-- a rule applied where n fit
abbrev pub apply : ℕ → Entry → Application
apply n e = record { number = e.number; target = e.rule.target; phones = e.rule.phones; fitting = n }

-- what is found at a reached letter: a rule to apply, no rule, or that the walk's tables are unusable
pub data Choice : Type 0 where
  chosen : Application → Choice
  nothing : Choice
  unusable : Choice

-- a part of what is said, by where it comes from: the rule applied at a reached letter, or the phones of a name on the exceptions list
pub data Piece : Type 0 where
  applied : Application → Piece
  listed : List ℕ → Piece

-- what a reading comes to: the pieces to say, in order; the position of a reached letter that has no rule; or unusable tables
pub data Reading : Type 0 where
  finished : List Piece → Reading
  uncovered : ℕ → Reading
  bad_tables : Reading

abbrev pub cons : Piece → Reading → Reading
cons x (finished xs) = finished (x ∷ xs)
cons x (uncovered i) = uncovered i
cons x bad_tables = bad_tables

-- pieces said, and then a reading
abbrev pub after : List Piece → Reading → Reading
after xs (finished ys) = finished (xs ++ ys)
after xs (uncovered i) = uncovered i
after xs bad_tables = bad_tables

-- reading goes on after the target of the rule applied at i
abbrev pub past : ℕ → Application → ℕ
past i a = i + length a.target

-- what follows from the choice at i; `go j` is the reading from j
abbrev pub onward : Choice → ℕ → (ℕ → Reading) → Reading
onward (chosen a) i go = cons (applied a) (go (past i a))
onward nothing i go = uncovered i
onward unusable i go = bad_tables

-- each rule of the list has a target
abbrev pub Targets : List Entry → Type 0
Targets l = (p : ℕ) → p < length l → 0 < length (get_or l p no_entry).rule.target

-- Reading from i to n, with at most k rules applied; n are enough, since targets are not empty.
abbrev pub read_from : (ℕ → Choice) → ℕ → ℕ → ℕ → Reading
read_from choose n zero i = finished []
read_from choose n (suc k) i = cond (ltb n i) (finished []) (onward (choose i) i (read_from choose n k))

-- the first rule in order that passes the test, told that n rules fit
abbrev pub first_rule : (Entry → Bool) → ℕ → List Entry → Choice
first_rule t n [] = nothing
first_rule t n (r ∷ rs) = cond (t r) (chosen (apply n r)) (first_rule t n rs)

-- how many rules pass the test
abbrev pub passing : (Entry → Bool) → List Entry → ℕ
passing t [] = 0
passing t (r ∷ rs) = cond (t r) 1 0 + passing t rs

-- the first that passes, and how many do
abbrev pub first_of : (Entry → Bool) → List Entry → Choice
first_of t rules = first_rule t (passing t rules) rules

-- the first rule in order that fits at i of the frame f, and how many fit there
abbrev pub first_fit : Classes → List Entry → Str → ℕ → Choice
first_fit k rules f i = first_of (λ r. fits_by k r.rule f i) rules

-- the plain reading of a word: at each reached letter the rules are tried in order
unfoldable pub plain : Classes → List Entry → Str → Reading
plain k rules w = read_from (first_fit k rules (frame w)) (length w) (length w) 1

-- ---- the same with literal rules (plain-literals, crate reading)

abbrev pub first_literal : List Entry → Str → ℕ → Choice
first_literal rules f i = first_of (λ r. fits r.rule f i) rules

unfoldable pub plain_literal : List Entry → Str → Reading
plain_literal rules w = read_from (first_literal rules (frame w)) (length w) (length w) 1
