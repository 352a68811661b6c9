-- Packed phones as the cells that hold them: groups of three bytes, from place 64 on.
-- Assumes nothing.
use Rattle.std.specs.Prelude.{◌≡◌, ℕ, suc, ◌+◌, ◌-◌, ◌/◌, ◌%◌, ◌≤◌, ◌<◌, List, length, get_or}
use Rattle.automaton.specs.Automaton.{val_of, rows_of}
use Rattle.packing.specs.Packing.{digit, said}

-- the words i to e are the groups of phones of state q, and there are no others
pub record PhoneCells (ws : List ℕ) (q i e : ℕ) : Type 0 where
  pub order : i ≤ e
  pub inside : e ≤ length ws
  pub few : e - i ≤ 22
  pub some : (k : ℕ) → k < e - i → 0 < val_of (get_or ws (i + k) 0)
  pub same : (k : ℕ) → k < e - i → rows_of ws q (64 + k) ≡ val_of (get_or ws (i + k) 0)
  pub none : (k : ℕ) → e - i ≤ k → rows_of ws q (64 + k) ≡ 0

-- ---- judged

-- v may be group k of n: its first byte is not 0, its third is 0 where the second is, a group that has a 0 is the last,
-- and group 21 has its first byte alone, the 64th of all
pub record GroupGood (n k v : ℕ) : Type 0 where
  pub first : 0 < v % 256
  pub second : 256 ≤ v → 0 < v / 256 % 256
  pub last : v < 65536 → suc k ≡ n
  pub short : k ≡ 21 → v < 256

-- cell k of the n cells from a on may be group k
abbrev pub HoldsGroup : List ℕ → ℕ → ℕ → ℕ → Type 0
HoldsGroup ws a n k = GroupGood n k (val_of (get_or ws (a + k) 0))

abbrev pub GroupsGood : List ℕ → ℕ → ℕ → Type 0
GroupsGood ws a n = (k : ℕ) → k < n → HoldsGroup ws a n k

-- ---- counted and written

-- the last byte of a group that is not 0 is the one before byte r
pub record LastBytes (v r : ℕ) : Type 0 where
  pub least : 0 < r
  pub most : r ≤ 3
  pub some : 0 < digit (r - 1) v
  pub none : r < 3 → digit r v ≡ 0

-- the bytes of a group
abbrev pub group_bytes : ℕ → ℕ → ℕ
group_bytes v d = digit d v

-- the bytes of the groups from word i on
unfoldable pub byte_from : List ℕ → ℕ → ℕ → ℕ
byte_from ws i j = digit (j % 3) (val_of (get_or ws (i + j / 3) 0))

-- the phones of state q are the first k bytes of the groups from word i on
pub record HoldsPhones (ws : List ℕ) (q i k : ℕ) : Type 0 where
  pub count : k ≡ length (said (rows_of ws) q)
  pub few : k ≤ 64
  pub inside : i + (k + 2) / 3 ≤ length ws
  pub same : (j : ℕ) → j < k → get_or (said (rows_of ws) q) j 0 ≡ byte_from ws i j
