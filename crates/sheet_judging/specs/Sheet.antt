-- The names of a walk sheet (document 02, request 8): the words that they send through the tables, what refuses the sheet, and the room that is worked in.
-- Assumes nothing.
use Rattle.std.specs.Prelude.{ℕ, ◌+◌, ◌*◌, List, [], ◌∷◌, ◌++◌, cond, leb, length}
use Rattle.rules.specs.Limits.{max_name, max_names}
use Rattle.rules.specs.Refusals.{Reply, accepted, unless}
use Rattle.fitting.specs.Fitting.{Str}
use Rattle.speech.specs.Words.{Word}
use Rattle.speech.specs.Speech.{Outcome}
use Rattle.sheet_name.specs.Judging.{table_words, sheet_refusal}

-- the words that the names send through the tables, with the list m
abbrev pub sheet_words : (Str → Str) → List Str → List Word
sheet_words m [] = []
sheet_words m (n ∷ ns) = table_words m n ++ sheet_words m ns

-- the first 16 or 22 that a name alone would get, where f is what each comes to
abbrev pub first_refusal : (Str → Outcome) → List Str → Reply
first_refusal f [] = accepted
first_refusal f (n ∷ ns) = unless (sheet_refusal (f n)) (first_refusal f ns)

-- Nodes of the tree besides the root, and parts, that are enough for all names: no more than the sheet's bytes, and for each name no more than # and its
-- letters.
abbrev pub work_room : List ℕ → ℕ
work_room sheet = cond (leb (length sheet) (max_names * (max_name + 1))) (length sheet) (max_names * (max_name + 1))
