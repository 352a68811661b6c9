-- The read-out of a lent list (document 02, request 1): "Read-out gives every listed name once and no other, in letter order, a name before
-- its continuations, by descending from each state to its successors. It writes length, letters, phone count, phones for each (counts 1 byte),
-- or gives 15." A lent list that is none gets 17 first.
-- Assumes nothing.
use Rattle.std.specs.Prelude.{◌≡◌, ℕ, ◌≤◌, ◌<◌, cond, leb, length}
use mathlib.Core.List.{List, [], Memᴰ}
use Rattle.rules.specs.Limits.{max_name}
use Rattle.rules.specs.Memory.{over}
use Rattle.rules.specs.Refusals.{Report, wrote, refused}
use Rattle.automaton.specs.Automaton.{Str, rows_of, Letters}
use Rattle.automaton.specs.Listing.{names, readout, entries, Rising}
use Rattle.packing.specs.Packing.{unpack}
use Rattle.exceptions.specs.Layout.{words_of, start_of, phones_for}
use Rattle.exceptions.specs.Judging.{is_list}

-- the text, by descending from the start
unfoldable pub list_text : List ℕ → List ℕ
list_text list = readout unpack (rows_of (words_of list)) max_name (start_of (words_of list)) []

-- the report, and the lent bytes after it
pub record ReadOut : Type 0 where
  pub report : Report
  pub bytes : List ℕ

abbrev pub reading : Report → List ℕ → ReadOut
reading r out = record { report = r; bytes = out }

-- the text at the front of the lent bytes; refusals 17 and 15, the place of which is the length needed, keep them
unfoldable pub read_out : List ℕ → List ℕ → ReadOut
read_out list out =
    cond (is_list list)
    (cond (leb (length (list_text list)) (length out))
    (reading (wrote (length (list_text list))) (over (list_text list) out))
    (reading (refused 15 (length (list_text list))) out))
    (reading (refused 17 0) out)

-- ---- what the text is, by names and phones alone

-- the names of 1 to 64 letters for which the list has phones, in order
abbrev pub listed_names : List ℕ → List Str
listed_names list = names max_name (phones_for (words_of list))

pub record ReadsOut (list : List ℕ) : Type 0 where
  -- the entries of the names, each with its phones
  pub text : list_text list ≡ entries [] (phones_for (words_of list)) (listed_names list)
  -- every listed name
  pub all : (w : Str) → Letters w → (phones_for (words_of list) w ≡ [] → ⊥) → Memᴰ w (listed_names list)
  -- and no other
  pub only : (w : Str) → Memᴰ w (listed_names list) → Letters w × (0 < length w) × (length w ≤ max_name) × (phones_for (words_of list) w ≡ [] → ⊥)
  -- once, in letter order, a name before its continuations
  pub order : Rising (listed_names list)
