-- The number of names from a state.
-- Assumes nothing.
use Rattle.std.specs.Prelude.{ℕ, zero, suc, ◌+◌, length}
use Rattle.automaton.specs.Automaton.{Rows, look}
use Rattle.automaton.specs.Listing.{names}

-- g 1 + .. + g k
unfoldable pub sum : (ℕ → ℕ) → ℕ → ℕ
sum g zero = 0
sum g (suc k) = sum g k + g (suc k)

-- how many names go on from state q: none has more than q letters
unfoldable pub total : Rows → ℕ → ℕ
total f q = length (names q (look f q))
