-- Refusal 17 of a lent list (document 02, request 1): when words are a list. `is_list` decides it clause by clause; `IsList` states the same.
-- Assumes nothing.
use Rattle.std.specs.Prelude.{◌≡◌, ℕ, zero, suc, ◌+◌, ◌≤◌, Bool, true, cond, ◌&&◌, ◌||◌, not, List, [], ◌∷◌, eqb, leb, ltb, length, get_or}
use Rattle.std.proofs.Math.Option.{Option, none, some}
use Rattle.rules.specs.Limits.{max_name, max_listed, max_states}
use Rattle.rules.specs.Refusals.{Reply, accepted, declined}
use Rattle.automaton.specs.Automaton.{Str, Rows, key_of, val_of, cells_of, rows_of, phones_at, Laid, Letters, look, Sound, Needed}
use Rattle.automaton.specs.Listing.{none?, names}
use Rattle.packing.specs.Packing.{byte_at}
use Rattle.minimality.specs.Judging.{Listed}
use Rattle.measures.specs.Measures.{Short}
use Rattle.phone_strings.specs.Packed.{AllPacked}
use Rattle.exceptions.specs.Layout.{list_size, words_of, start_of, phones_for, names_in}

-- ---- as claims

pub record IsList (ws : List ℕ) : Type 0 where
  -- no more than 4,096 states
  pub states : start_of ws ≤ max_states
  -- the cells of the states lie in the words, one state's after another's, each row with one writing
  pub laid : Laid ws (start_of ws)
  -- each successor is a state before its own, so that none is outside and there is no circle; no two states have the same successors and phones
  pub sound : Sound (rows_of ws) (start_of ws)
  -- every state but the start is a successor
  pub needed : Needed (rows_of ws) (start_of ws)
  -- the phones of a name are 1 to 64 bytes, none of them 00
  pub phones : AllPacked (rows_of ws) (start_of ws)
  -- no more than 1,000 names
  pub names : names_in ws ≤ max_listed
  -- of 1 to 64 letters
  pub letters : Short (rows_of ws) (start_of ws)
  pub lettered : phones_at (rows_of ws) (start_of ws) ≡ []

-- ---- as a test

-- every number up to n passes the test; some number up to n does
unfoldable pub all_to : ℕ → (ℕ → Bool) → Bool
all_to zero t = t zero
all_to (suc n) t = t (suc n) && all_to n t

unfoldable pub some_to : ℕ → (ℕ → Bool) → Bool
some_to zero t = t zero
some_to (suc n) t = t (suc n) || some_to n t

-- where the cells lie: from word 4200 on, state 0 has none, and none lies outside the words
abbrev pub offsets_good : List ℕ → ℕ → Bool
offsets_good ws n =
    eqb (get_or ws 0 0) 4200 && (eqb (get_or ws 1 0) 4200 && (leb (get_or ws (suc n) 0) (length ws) && all_to n (λ q. leb (get_or ws q 0) (get_or ws (suc q) 0))))

-- cells of state q with places from lo on: places rise, something stands in each, a successor is before q, groups of phones follow one another from place 64 on
abbrev pub cells_good : ℕ → ℕ → List ℕ → Bool
cells_good q lo [] = true
cells_good q lo (x ∷ l) =
    leb lo (key_of x) && (ltb (key_of x) 86 && (ltb 0 (val_of x) && (cond (ltb (key_of x) 64) (ltb (val_of x) q) (eqb (key_of x) 64 || eqb (key_of x) lo) && cells_good q (suc (key_of x)) l)))

-- states i and j have the same successors and phones
abbrev pub alike : Rows → ℕ → ℕ → Bool
alike f i j = all_to 85 (λ k. eqb (f i k) (f j k))

-- x is a successor of one of the states up to n
abbrev pub leads_to : Rows → ℕ → ℕ → Bool
leads_to f n x = some_to n (λ j. some_to 63 (λ c. eqb (f j c) x))

-- the phones of state q: after a byte 00 only such, and at most 64 before it
abbrev pub phones_good : Rows → ℕ → Bool
phones_good f q = eqb (byte_at f q 64) 0 && all_to 64 (λ k. not (eqb (byte_at f q k) 0) || eqb (byte_at f q (suc k)) 0)

-- no name has more than 64 letters
abbrev pub all_short : List Str → Bool
all_short [] = true
all_short (w ∷ l) = leb (length w) max_name && all_short l

unfoldable pub listed : List ℕ → ℕ → Bool
listed ws n =
    leb n max_states
    && (offsets_good ws n
    && (all_to n (λ q. cells_good q 1 (cells_of ws q))
    && (all_to n (λ i. all_to n (λ j. not (alike (rows_of ws) i j) || eqb i j))
    && (all_to n (λ x. eqb x 0 || (eqb x n || leads_to (rows_of ws) n x))
    && (all_to n (phones_good (rows_of ws))
    && (leb (names_in ws) max_listed
    && (all_short (names n (look (rows_of ws) n)) && none? (phones_at (rows_of ws) n))))))))

-- the start is 0, which has no cells: words of a list's size are then an empty list (proofs/Empty)
unfoldable pub blank : List ℕ → Bool
blank ws = eqb (start_of ws) 0 && (eqb (get_or ws 0 0) 4200 && eqb (get_or ws 1 0) 4200)

-- 17: the lent memory is as long as a list, and its words are one
unfoldable pub is_list : List ℕ → Bool
is_list list = leb list_size (length list) && listed (words_of list) (start_of (words_of list))

abbrev pub judged_list : List ℕ → Reply
judged_list list = cond (is_list list) accepted (declined 17 0)

-- ---- what is lent as a list: none where it is not one, else what it says of each name

abbrev pub Listing : Type 0
Listing = Option (Str → Str)

unfoldable pub listing_of : List ℕ → Listing
listing_of list = cond (is_list list) (some (phones_for (words_of list))) none

-- no list is lent: no name is listed
abbrev pub no_list : Listing
no_list = some (λ w. [])

-- what lent words say of each name where they are judged already: nothing where they are too few for a list
unfoldable pub says_of : List ℕ → Str → Str
says_of list w = cond (leb list_size (length list)) (phones_for (words_of list) w) []

-- they are a list, or too few for one
abbrev pub KnownList : List ℕ → Type 0
KnownList list = list_size ≤ length list → is_list list ≡ true

-- q is a state of a list
pub record StateOf (list : List ℕ) (q : ℕ) : Type 0 where
  pub lent : is_list list ≡ true
  pub inside : q ≤ start_of (words_of list)

-- the list says m of every name
abbrev pub Says : List ℕ → (Str → Str) → Type 0
Says list m = (w : Str) → Letters w → phones_for (words_of list) w ≡ m w

-- ---- what the functions that judge ask

-- a list's size of words, and a place in the scratch for each key and state
pub record JudgeAsks (ws heads marks : List ℕ) : Type 0 where
  pub size : length ws ≡ list_size
  pub keys : 4093 ≤ length heads
  pub room : suc max_states ≤ length marks

-- the states are found to be a minimal automaton
pub record NamesAsk (ws : List ℕ) (n : ℕ) (marks : List ℕ) : Type 0 where
  pub start : n ≡ start_of ws
  pub states : n ≤ max_states
  pub automaton : Listed ws n
  pub room : n + 1 ≤ length marks
