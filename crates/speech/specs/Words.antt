-- Names of several words: document 02, request 3. Byte 3F separates words, and what is said of a name is made of what is said of its words.
-- Assumes nothing.
use Rattle.std.specs.Prelude.{ℕ, suc, ◌+◌, ◌*◌, ◌≤◌, ◌≡◌, cond, List, [], ◌∷◌, ◌++◌, map, eqb, leb, length, get_or, drop}
use Rattle.rules.specs.Limits.{separator}
use Rattle.fitting.specs.Fitting.{Str}
use Rattle.fitting.specs.Reading.{listed, Reading, finished, uncovered, bad_tables, after}

-- ---- the words of a name

-- a word: how many bytes of the name stand before it, and its letters
pub record Word : Type 0 where
  pub before : ℕ
  pub letters : Str

abbrev pub word : ℕ → Str → Word
word b w = record { before = b; letters = w }

-- one letter more at the front of the first word
abbrev pub on_first : ℕ → List Str → List Str
on_first c [] = (c ∷ []) ∷ []
on_first c (w ∷ ws) = (c ∷ w) ∷ ws

-- a name is split at each 3F: k of them give k + 1 words, also empty ones
abbrev pub split : Str → List Str
split [] = [] ∷ []
split (c ∷ s) = cond (eqb c separator) ([] ∷ split s) (on_first c (split s))

-- the words that follow b bytes, each with the bytes before it: its own position, then one more for the 3F
abbrev pub placed : ℕ → List Str → List Word
placed b [] = []
placed b (w ∷ ws) = word b w ∷ placed (suc (b + length w)) ws

unfoldable pub words_in : Str → List Word
words_in name = placed 0 (split name)

-- ---- what is said of a name, from what is said of its words

-- the position of a letter without a rule is that in the whole name
abbrev pub in_name : ℕ → Reading → Reading
in_name b (finished xs) = finished xs
in_name b (uncovered i) = uncovered (b + i)
in_name b bad_tables = bad_tables

-- phones that the list gives are said; where it gives none, it is what follows
abbrev pub phones_or : Str → Reading → Reading
phones_or [] r = r
phones_or (x ∷ p) r = finished (listed (x ∷ p) ∷ [])

-- a listed word is said from the list m, any other is read
abbrev pub read_word : (Str → Str) → (Str → Reading) → Word → Reading
read_word m read w = phones_or (m w.letters) (in_name w.before (read w.letters))

-- one reading and then another: what ends the first ends both
abbrev pub followed : Reading → Reading → Reading
followed (finished xs) r = after xs r
followed (uncovered i) r = uncovered i
followed bad_tables r = bad_tables

-- the words in turn
abbrev pub read_words : (Str → Str) → (Str → Reading) → List Word → Reading
read_words m read [] = finished []
read_words m read (w ∷ ws) = followed (read_word m read w) (read_words m read ws)

-- the words that the list does not give phones for
abbrev pub unless : Str → List Word → List Word → List Word
unless [] ws us = ws
unless (x ∷ p) ws us = us

abbrev pub unlisted : (Str → Str) → List Word → List Word
unlisted m [] = []
unlisted m (w ∷ ws) = unless (m w.letters) (w ∷ unlisted m ws) (unlisted m ws)

-- 2 |w| + 2 for each word
abbrev pub steps_for : List Word → ℕ
steps_for [] = 0
steps_for (w ∷ ws) = 2 * length w.letters + 2 + steps_for ws

-- ---- a name in memory: all its words in one frame, so that the frame of each is a part of it

-- # in place of each 3F
abbrev pub boundary_or : ℕ → ℕ
boundary_or c = cond (eqb c separator) 0 c

abbrev pub frame_of : Str → Str
frame_of name = 0 ∷ map boundary_or name ++ (0 ∷ [])

-- the letters before the first 3F
abbrev pub first_word : Str → Str
first_word [] = []
first_word (c ∷ s) = cond (eqb c separator) [] (c ∷ first_word s)

-- the word that follows b bytes, and the position of the # after it
abbrev pub word_at : Str → ℕ → Str
word_at name b = first_word (drop b name)

abbrev pub end_at : Str → ℕ → ℕ
end_at name b = suc (b + length (word_at name b))

-- a word starts after b bytes
abbrev pub Starts : Str → ℕ → Type 0
Starts name b = get_or (frame_of name) b 1 ≡ 0

-- the words from there on, none past the end
unfoldable pub words_from : Str → ℕ → List Word
words_from name b = cond (leb b (length name)) (placed b (split (drop b name))) []

-- of a word that follows b bytes: it starts there, and its # stands at e
pub record WordOf (name : Str) (b e : ℕ) : Type 0 where
  pub inside : b ≤ length name
  pub starts : Starts name b
  pub ends : e ≡ end_at name b
