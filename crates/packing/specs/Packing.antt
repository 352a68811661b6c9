-- Phones three to a number, and back; the phones of a state.
-- Assumes nothing.
use Rattle.std.specs.Prelude.{ℕ, zero, suc, ◌+◌, ◌-◌, ◌*◌, ◌/◌, ◌%◌, ◌≤◌, ◌<◌, List, [], ◌∷◌, length, get_or}
use Rattle.automaton.specs.Automaton.{Str, Rows, up_to, rows_of, phones_at, Laid, Sound}

-- 0 to 64 phones, bytes above 0
pub record Bytes (p : Str) : Type 0 where
  pub few : length p ≤ 64
  pub sounded : (k : ℕ) → k < length p → 0 < get_or p k 0
  pub bytes : (k : ℕ) → k < length p → get_or p k 0 < 256

unfoldable pub group_at : Str → ℕ → ℕ
group_at p k = get_or p (3 * k) 0 + 256 * get_or p (3 * k + 1) 0 + 65536 * get_or p (3 * k + 2) 0

unfoldable pub count : Str → ℕ
count p = (length p + 2) / 3

-- g 0, .., g (n - 1)
abbrev pub table : (ℕ → ℕ) → ℕ → List ℕ
table g zero = []
table g (suc n) = g 0 ∷ table (λ k. g (suc k)) n

unfoldable pub groups_of : Str → List ℕ
groups_of p = table (group_at p) (count p)

-- one of the three bytes of a number of 24 bits
abbrev pub digit : ℕ → ℕ → ℕ
digit zero v = v % 256
digit (suc zero) v = v / 256 % 256
digit (suc (suc k)) v = v / 65536

unfoldable pub byte_of : List ℕ → ℕ → ℕ
byte_of g j = digit (j % 3) (get_or g (j / 3) 0)

-- the phones of groups
unfoldable pub unpack : List ℕ → Str
unpack g = up_to 64 (byte_of g)

-- phone j of the name that ends in state q
unfoldable pub byte_at : Rows → ℕ → ℕ → ℕ
byte_at f q j = digit (j % 3) (f q (64 + j / 3))

-- the phones of the name that ends in state q
unfoldable pub said : Rows → ℕ → Str
said f q = unpack (phones_at f q)

-- the states to n are in memory, and q is one of them
pub record StateAsks (ws : List ℕ) (n q : ℕ) : Type 0 where
  pub sound : Sound (rows_of ws) n
  pub states : n ≤ 4096
  pub laid : Laid ws n
  pub inside : q ≤ n
