-- What a name is: refusals 2 and 1 of document 01.
-- Assumes nothing.
use Rattle.std.specs.Prelude.{ℕ, suc, ◌≤◌, ◌≡◌, Bool, true, cond, ◌&&◌, List, [], ◌∷◌, leb, length}
use Rattle.rules.specs.Limits.{max_name, max_name_byte}
use Rattle.rules.specs.Shape.{all_from}
use Rattle.rules.specs.Refusals.{Reply, accepted, declined}

-- a byte of a name lies from 01 to 3F
abbrev pub name_byte : ℕ → Bool
name_byte b = leb 1 b && leb b max_name_byte

-- 1: the first byte that a name may not have, counted from i
abbrev pub judged_bytes : ℕ → List ℕ → Reply
judged_bytes i [] = accepted
judged_bytes i (b ∷ w) = cond (name_byte b) (judged_bytes (suc i) w) (declined 1 i)

-- 2, then 1
unfoldable pub judged_name : List ℕ → Reply
judged_name name = cond (leb (length name) max_name) (judged_bytes 0 name) (declined 2 0)

-- so a sound name has at most 64 bytes, each from 01 to 3F
pub record SoundName (name : List ℕ) : Type 0 where
  pub short : length name ≤ max_name
  pub bytes : all_from max_name_byte name ≡ true
