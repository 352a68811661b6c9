-- The steps that a walk answers with, whatever its tables are (document 01, "The walk"; document 02, requests 1, 3 and 6), and those of a sheet
-- (request 8).
-- Assumes nothing.
use Rattle.std.specs.Prelude.{ℕ, ◌+◌, cond, ◌&&◌, List, [], ◌∷◌, leb, length}
use Rattle.std.proofs.Math.Option.{none, some}
use Rattle.exceptions.specs.Judging.{Listing}
use Rattle.fitting.specs.Fitting.{Str}
use Rattle.speech.specs.Words.{Word, words_in, unlisted, steps_for}
use Rattle.speech.specs.Speech.{Told, spoken, refused}
use Rattle.tables.specs.States.{states}

-- the steps of an answer: so many, and 0 with 0, 1, 2, 16, 17 and 22
abbrev pub steps_told : Told → ℕ → ℕ
steps_told (spoken p n c) steps = steps
steps_told (refused n p) steps = cond (leb 3 n && leb n 5) steps 0

-- the steps of a name that is answered: none where it is said from the list m, which gives it the phones p, else 2 |w| + 2 for each unlisted word
abbrev pub steps_by : Str → (Str → Str) → Str → ℕ
steps_by [] m name = steps_for (unlisted m (words_in name))
steps_by (x ∷ p) m name = 0

abbrev pub steps_of_call : Listing → Str → ℕ
steps_of_call none name = 0
steps_of_call (some m) name = steps_by (m name) m name

-- ---- a sheet

-- # followed by each word: the strings that the left passes read
abbrev pub hashed : List Word → List Str
hashed [] = []
hashed (w ∷ ws) = (0 ∷ w.letters) ∷ hashed ws

-- their different prefixes, the empty one among them; each of the others is one step of the left passes that the words share
abbrev pub prefixes_of : List Word → List Str
prefixes_of ws = states (hashed ws)

-- the steps of the right passes: |w| + 1 for each word
abbrev pub right_steps : List Word → ℕ
right_steps [] = 0
right_steps (w ∷ ws) = length w.letters + 1 + right_steps ws
