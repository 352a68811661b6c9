-- Many names lent one after another, each after a byte that says its length.
-- Assumes nothing.
use Rattle.std.specs.Prelude.{ℕ, zero, suc, ◌+◌, ◌*◌, List, [], ◌∷◌, Bool, true, false, cond, ◌&&◌, leb, ltb, length, get_or, take, drop}
use Rattle.rules.specs.Limits.{max_names}
use Rattle.fitting.specs.Fitting.{Str}

-- the names in the bytes: at most k of them, and only whole ones
abbrev pub names_in : ℕ → List ℕ → List Str
names_in zero s = []
names_in (suc k) [] = []
names_in (suc k) (n ∷ s) = cond (leb n (length s)) (take n s ∷ names_in k (drop n s)) []

-- the name whose length byte lies at `at`
abbrev pub name_at : List ℕ → ℕ → Str
name_at names at = take (get_or names at 0) (drop (at + 1) names)

-- fewer than k names have been taken, and a whole one lies from `at` on
abbrev pub has_next : List ℕ → ℕ → ℕ → ℕ → Bool
has_next names at count k = ltb count k && leb (at + 1 + get_or names at 0) (length names)

-- ---- a walk sheet

-- 24 refuses any other: no name is cut short, and there are no more than k
abbrev pub sound_sheet : ℕ → List ℕ → Bool
sound_sheet zero [] = true
sound_sheet zero (n ∷ s) = false
sound_sheet (suc k) [] = true
sound_sheet (suc k) (n ∷ s) = leb n (length s) && sound_sheet k (drop n s)

-- bytes of the longest sound sheet: each name with its length byte
abbrev pub max_sheet : ℕ
max_sheet = max_names * 256
