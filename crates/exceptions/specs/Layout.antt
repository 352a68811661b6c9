-- The exceptions list in lent words (document 02, request 1). States are numbered from 1, each after its successors, so that the start has the
-- highest number; 0 is no state, and the start of the empty list. The words:
--   0 to n + 1      where the cells of the states 0 to n begin, and where those of state n end; words 0 and 1 are 4200: state 0 has no cells
--   4199            n, the number of the start
--   4200 on         the cells, state after state (automaton/specs/Automaton has their layout)
-- All other words are free: what they hold means nothing, and a change may write them.
-- Assumes nothing.
use Rattle.std.specs.Prelude.{ℕ, max, List, get_or, take}
use Rattle.automaton.specs.Automaton.{Str, rows_of, look}
use Rattle.automaton.specs.Totals.{total}
use Rattle.packing.specs.Packing.{unpack, said}

-- the words that a list needs: 4,200 before the cells, 26,096 cells of the largest list, 5,590 that one change takes for a while
unfoldable pub list_size : ℕ
list_size = 35886

-- the word that holds the start's number
unfoldable pub startWord : ℕ
startWord = 4199

-- the words of a lent list; those that lie past them are not looked at
abbrev pub words_of : List ℕ → List ℕ
words_of list = take list_size list

unfoldable pub start_of : List ℕ → ℕ
start_of ws = get_or ws startWord 0

-- what the words say of a name: its phones, none where it is not listed
unfoldable pub phones_for : List ℕ → Str → Str
phones_for ws w = unpack (look (rows_of ws) (start_of ws) w)

-- the phones of the names that end in state q
abbrev pub phones_ending : List ℕ → ℕ → Str
phones_ending ws q = said (rows_of ws) q

-- how many names are listed
unfoldable pub names_in : List ℕ → ℕ
names_in ws = total (rows_of ws) (start_of ws)

-- how many states there are: the start is counted, so that the empty list has 1
unfoldable pub states_in : List ℕ → ℕ
states_in ws = max 1 (start_of ws)
