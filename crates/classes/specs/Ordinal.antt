-- Literal rules by their ordinals: literal rule j of a rule, and where the literal rules of a list come from.
-- Assumes nothing.
use Rattle.std.specs.Prelude.{ℕ, zero, suc, ◌/◌, ◌%◌, ◌<◌, ◌≡◌, List, [], ◌∷◌, ◌++◌, length, get_or}
use Rattle.rules.specs.Shape.{Production, Entry}
use Rattle.classes.specs.Classes.{Classes}
use Rattle.classes.specs.Expansion.{choices, size, within, literal_count, under}

-- choice j of a string of symbols, counted round
abbrev pub choice_at : Classes → List ℕ → ℕ → List ℕ
choice_at k s j = get_or (choices k s) (j % size k s) []

-- literal rule j of a rule: the right context varies fastest
abbrev pub literal_at : Classes → Production → ℕ → Production
literal_at k r j = within r (choice_at k r.left (j / size k r.right)) (choice_at k r.right j)

-- where a literal rule comes from: the place of its numbered rule, and which of that rule's literal rules it is
pub record Origin : Type 0 where
  pub place : ℕ
  pub ordinal : ℕ

abbrev pub origin : ℕ → ℕ → Origin
origin q j = record { place = q; ordinal = j }

-- n literal rules of the rule at place q, from ordinal j on
abbrev pub origin_run : ℕ → ℕ → ℕ → List Origin
origin_run q j zero = []
origin_run q j (suc n) = origin q j ∷ origin_run q (suc j) n

-- the literal rules of a list whose first rule has place q
abbrev pub origins : Classes → ℕ → List Entry → List Origin
origins k q [] = []
origins k q (e ∷ l) = origin_run q 0 (literal_count k e.rule) ++ origins k (suc q) l

-- the literal rule at place p of an expansion is literal rule j of the numbered rule at q, where origin p is (q, j)
pub record Literal (k : Classes) (none : Entry) (l : List Entry) (o : Origin) (x : Entry) : Type 0 where
  pub inside : o.place < length l
  pub below : o.ordinal < literal_count k (get_or l o.place none).rule
  pub literal : x ≡ under (get_or l o.place none).number (literal_at k (get_or l o.place none).rule o.ordinal)
