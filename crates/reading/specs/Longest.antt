-- How many phones a name can give, and so how much lent memory is always enough for them.
-- Assumes nothing.
use Rattle.std.specs.Prelude.{ℕ, ◌+◌, ◌*◌, ◌/◌, ◌≤◌, ◌≡◌}
use Rattle.rules.specs.Limits.{max_phones, max_name, max_listed_phones}
use Rattle.speech.specs.Speech.{Told, spoken, refused}

-- the most: as many words of one letter as a name has room for, with a separator between two of them, each listed with the most phones
abbrev pub most_phones : ℕ
most_phones = max_listed_phones * ((max_name + 1) / 2)

-- with no list: for each letter the most phones of a rule
abbrev pub most_by_rules : ℕ
most_by_rules = max_phones * max_name

-- An answer given with so much room for phones needs b of them at most: no more are given, 4 tells no more, and with room for b it is not told.
pub record PhonesWithin (b room : ℕ) (t : Told) : Type 0 where
  pub given : (p n c : ℕ) → t ≡ spoken p n c → p ≤ b
  pub needed : (p : ℕ) → t ≡ refused 4 p → p ≤ b
  pub enough : b ≤ room → (p : ℕ) → t ≡ refused 4 p → ⊥
