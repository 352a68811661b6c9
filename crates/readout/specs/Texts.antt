-- What the functions that write the read-out ask and give.
-- Assumes nothing.
use Rattle.std.specs.Prelude.{◌≡◌, ℕ, ◌+◌, ◌≤◌, List, [], ◌∷◌, ◌++◌, length, get_or, take}
use Rattle.automaton.specs.Automaton.{Str, Rows, rows_of}
use Rattle.automaton.specs.Listing.{readout}
use Rattle.packing.specs.Packing.{unpack, StateAsks}
use Rattle.phone_strings.specs.Packed.{AllPacked}
use Rattle.states.specs.States.{Written}

-- the longest read-out: 1,000 entries of a length, 64 letters, a count and 64 phones
abbrev pub most_text : ℕ
most_text = 130000

-- the bytes of a text
abbrev pub text_of : List ℕ → ℕ → ℕ
text_of t j = get_or t j 0

-- r is the place after a text from `at` on; where it has room, it stands there and all else is kept
pub record Wrote (t : List ℕ) (at : ℕ) (out out' : List ℕ) (r : ℕ) : Type 0 where
  pub next : r ≡ at + length t
  pub long : length out' ≡ length out
  pub text : at + length t ≤ length out → Written (text_of t) at (length t) out out'

-- what stands before the phones of an entry: the length, the letters, the phone count
abbrev pub heading : Str → ℕ → List ℕ
heading path count = length path ∷ (path ++ (count ∷ []))

-- the text t from `at` on, of names that begin with the first `depth` letters of the path, which lead to state q, and have at most `left` more
pub record TextAsks (ws : List ℕ) (n q : ℕ) (path : Str) (depth left : ℕ) (t : List ℕ) (at : ℕ) : Type 0 where
  pub state : StateAsks ws n q
  pub packed : AllPacked (rows_of ws) n
  pub deep : depth + left ≤ 64
  pub letters : 64 ≤ length path
  pub few : at + length t ≤ most_text

-- the text is written, and the letters of the path that lead to the state are kept
pub record TextGives (t : List ℕ) (at : ℕ) (out out' : List ℕ) (r depth : ℕ) (path path' : Str) : Type 0 where
  pub wrote : Wrote t at out out' r
  pub kept : take depth path' ≡ take depth path
  pub long : length path' ≡ length path

-- the entries of the names that go on with the letter c, and have at most h more
abbrev pub under : Rows → ℕ → ℕ → Str → ℕ → List ℕ
under f h q path c = readout unpack f h (f q c) (path ++ (c ∷ []))
