-- Lists of changes as words and bytes. A change is three words: its kind (0 add, else remove), how many letters the name has and how many
-- phones; the letters and the phones of all changes stand one after another in a text.
-- Assumes nothing.
use Rattle.std.specs.Prelude.{ℕ, zero, suc, ◌<◌, cond, List, [], ◌∷◌, ◌++◌, eqb, length, get_or, take, drop}
use Rattle.rules.specs.Memory.{Below, word_bound}
use Rattle.automaton.specs.Automaton.{Str}
use Rattle.change.specs.Change.{Change}
use Rattle.change.specs.Change.Change.{Add, Remove}

-- words of a change
abbrev pub change_words : ℕ
change_words = 3

-- the change of a kind; a removal has no use for phones
abbrev pub change_of : ℕ → Str → Str → Change
change_of kind name p = cond (eqb kind 0) (Add name p) (Remove name)

-- the change that the first three words say, of the text from its letters on; a text that is too short gives what it has
abbrev pub coded_change : List ℕ → List ℕ → Change
coded_change ws text = change_of (get_or ws 0 0) (take (get_or ws 1 0) text) (take (get_or ws 2 0) (drop (get_or ws 1 0) text))

-- the first n changes
abbrev pub coded_changes : ℕ → List ℕ → List ℕ → List Change
coded_changes zero ws text = []
coded_changes (suc n) ws text = coded_change ws text ∷ coded_changes n (drop change_words ws) (drop (get_or ws 2 0) (drop (get_or ws 1 0) text))

-- ---- the code of a list

-- the name that a change is of, and the phones that it gives the name: a removal gives none
abbrev pub name_of : Change → Str
name_of (Add name p) = name
name_of (Remove name) = name

abbrev pub phones_of : Change → Str
phones_of (Add name p) = p
phones_of (Remove name) = []

abbrev pub kind_of : Change → ℕ
kind_of (Add name p) = 0
kind_of (Remove name) = 1

abbrev pub words_all : List Change → List ℕ
words_all [] = []
words_all (c ∷ cs) = kind_of c ∷ length (name_of c) ∷ length (phones_of c) ∷ words_all cs

abbrev pub text_all : List Change → List ℕ
text_all [] = []
text_all (c ∷ cs) = name_of c ++ (phones_of c ++ text_all cs)

-- ---- arguments of the functions' types

-- a slice of bytes
pub record ByteSlice (s : List ℕ) : Type 0 where
  pub size : length s < word_bound
  pub bytes : Below 256 s

pub record Typed (c : Change) : Type 0 where
  pub name : ByteSlice (name_of c)
  pub phones : ByteSlice (phones_of c)

abbrev pub TypedAll : List Change → Type 0
TypedAll [] = Unit {0}
TypedAll (c ∷ cs) = Typed c × TypedAll cs
