-- When the phones of a state are packed as they are written.
-- Assumes nothing.
use Rattle.std.specs.Prelude.{◌≡◌, ℕ, ◌≤◌}
use Rattle.automaton.specs.Automaton.{Rows, Padded}
use Rattle.packing.specs.Packing.{byte_at}

-- no byte but 0 after a 0, and at most 64 before it
pub record Packed (f : Rows) (q : ℕ) : Type 0 where
  pub padded : Padded 66 (byte_at f q)
  pub short : byte_at f q 64 ≡ 0

abbrev pub AllPacked : Rows → ℕ → Type 0
AllPacked f n = (q : ℕ) → q ≤ n → Packed f q
