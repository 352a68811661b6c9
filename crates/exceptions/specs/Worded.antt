-- When lent memory passes 17, in the words of document 02, request 1. `is_list` is true exactly then (proofs/Worded).
-- Assumes nothing.
use Rattle.std.specs.Prelude.{◌≡◌, ℕ, ◌≤◌, ◌<◌, List, [], length}
use Rattle.rules.specs.Limits.{max_name, max_listed, max_states}
use Rattle.automaton.specs.Automaton.{Str, rows_of, end_state, look, Letters}
use Rattle.packing.specs.Packing.{unpack}
use Rattle.minimality.specs.Judging.{Offsets, RowsGood}
use Rattle.phone_strings.specs.Packed.{AllPacked}
use Rattle.exceptions.specs.Layout.{list_size, words_of, start_of, phones_for, names_in}

-- what the words say of the letters from state q on
abbrev pub said_from : List ℕ → ℕ → Str → Str
said_from ws q w = unpack (look (rows_of ws) q w)

-- the two rules on states, which are the numbers from 1 to the start's
pub record Minimal (ws : List ℕ) : Type 0 where
  -- no two states have the same endings with the same phones
  pub differ : (i j : ℕ) → 0 < i → i ≤ start_of ws → 0 < j → j ≤ start_of ws → ((w : Str) → Letters w → said_from ws i w ≡ said_from ws j w) → i ≡ j
  -- every state is reached from the start, and leads to a name: the start too, since that of the empty list is 0, which is no state
  pub reached : (q : ℕ) → 0 < q → q ≤ start_of ws → (w : Str) × Letters w × (end_state (rows_of ws) (start_of ws) w ≡ q)
  pub leads : (q : ℕ) → 0 < q → q ≤ start_of ws → (w : Str) × Letters w × (said_from ws q w ≡ [] → ⊥)

pub record AsWorded (list : List ℕ) : Type 0 where
  -- no less memory than the layout needs
  pub memory : list_size ≤ length list
  -- the layout: where the cells of the states lie, and how a state is written in them. A successor has a lower number than its state, so that
  -- none is outside the list and there is no circle
  pub offsets : Offsets (words_of list) (start_of (words_of list))
  pub cells : RowsGood (words_of list) (start_of (words_of list))
  -- names, letters and states within the limits
  pub names : names_in (words_of list) ≤ max_listed
  pub letters : (w : Str) → Letters w → (phones_for (words_of list) w ≡ [] → ⊥) → (0 < length w) × (length w ≤ max_name)
  pub states : start_of (words_of list) ≤ max_states
  -- no bad phone string: after a byte 00 only such, and at most 64 before it
  pub phones : AllPacked (rows_of (words_of list)) (start_of (words_of list))
  pub minimal : Minimal (words_of list)
