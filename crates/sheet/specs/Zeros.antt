-- Memory to work in: zero words, which are zero again afterwards.
-- Assumes nothing.
use Rattle.std.specs.Prelude.{ℕ, ◌≡◌, Bool, true, ◌&&◌, List, [], ◌∷◌, leb, eqb, length, get_or, take}

-- each is z, as e tells
abbrev pub all_are : {A : Type 0} → (A → A → Bool) → A → List A → Bool
all_are e z [] = true
all_are e z (x ∷ s) = e x z && all_are e z s

-- the first n are there, and are z
abbrev pub first_are : {A : Type 0} → (A → A → Bool) → A → ℕ → List A → Bool
first_are e z n s = leb n (length s) && all_are e z (take n s)

abbrev pub all_zero : List ℕ → Bool
all_zero = all_are eqb 0

abbrev pub zeros : ℕ → List ℕ → Bool
zeros = first_are eqb 0

pub record AllZero (s : List ℕ) : Type 0 where
  pub each : (k : ℕ) → get_or s k 0 ≡ 0
