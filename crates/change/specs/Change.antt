-- Adding, replacing and removing a name (document 02, request 1): the refusals in their order, and the list after the change.
-- Assumes nothing.
use Rattle.std.specs.Prelude.{◌≡◌, ℕ, ◌≤◌, ◌<◌, Bool, true, false, cond, ◌&&◌, List, [], leb, ltb, length, drop}
use Rattle.rules.specs.Limits.{max_phone, max_name, max_name_byte, max_listed, max_listed_phones, max_states}
use Rattle.rules.specs.Shape.{all_from}
use Rattle.rules.specs.Refusals.{Reply, accepted, declined, unless}
use Rattle.rules.specs.Names.{judged_name}
use Rattle.automaton.specs.Automaton.{Str, end_state, Letters, changed}
use Rattle.automaton.specs.Listing.{none?, names}
use Rattle.minimality.specs.Judging.{Decides}
use Rattle.exceptions.specs.Layout.{list_size, words_of, phones_for}
use Rattle.exceptions.specs.Judging.{is_list, Says}

-- a change: a name gets phones, or loses them
pub data Change : Type 0 where
  Add : Str → Str → Change
  Remove : Str → Change

-- an entry: a name of some letters, and 1 to 64 phones, none of them 00
unfoldable pub good_entry : Str → Str → Bool
good_entry name p = ltb 0 (length name) && (ltb 0 (length p) && (leb (length p) max_listed_phones && all_from max_phone p))

-- 17 of any other
abbrev pub judged_entry : Str → Str → Reply
judged_entry name p = cond (good_entry name p) accepted (declined 17 0)

-- 18: what the list says of the name, where that is nothing
abbrev pub judged_listed : Str → Reply
judged_listed p = cond (none? p) (declined 18 0) accepted

-- the refusals before the limits, for a list that says m of each name: 2, 1, and 17 of the entry or 18
abbrev pub judged_change : (Str → Str) → Change → Reply
judged_change m (Add name p) = unless (judged_name name) (judged_entry name p)
judged_change m (Remove name) = unless (judged_name name) (judged_listed (m name))

-- what is said after the change, where it is accepted
abbrev pub after_change : (Str → Str) → Change → (Str → Str)
after_change m (Add name p) = changed name p m
after_change m (Remove name) = changed name [] m

-- An automaton of k states that says m of each name. The states are the numbers 1 to k, the start among them; 0 is none. How it is kept is left
-- open, and it need not be the smallest.
pub record Automaton (m : Str → Str) (k : ℕ) : Type 0 where
  -- the successor of a state under a letter, 0 where there is none
  pub next : ℕ → ℕ → ℕ
  -- the phones of the names that end in a state, none where no name does
  pub phones : ℕ → Str
  pub start : ℕ
  pub first : 0 < start
  pub last : start ≤ k
  pub inside : (q c : ℕ) → q ≤ k → 0 < c → c ≤ max_name_byte → next q c ≤ k
  -- no state follows 0, and no name ends in it
  pub ended : (c : ℕ) → 0 < c → c ≤ max_name_byte → next 0 c ≡ 0
  pub none : phones 0 ≡ []
  pub says : (w : Str) → Letters w → phones (end_state next start w) ≡ m w

-- The limits, of m alone: at most 1,000 names, and some automaton of at most 4,096 states says it. That is so just where the smallest one, in which
-- no two states are alike and each is reached and leads to a name, has at most 4,096: a list has no more states than any automaton that says the
-- same (`smallest`, proofs/Lists).
pub record Within (m : Str → Str) : Type 0 where
  -- a list says no longer names
  pub listed : length (names max_name m) ≤ max_listed
  pub states : ℕ
  pub few : states ≤ max_states
  pub automaton : Automaton m states

-- the answer to a change on a list that says m: what is refused before the limits, and 19, checked last
pub record Answers (m : Str → Str) (c : Change) (reply : Reply) : Type 0 where
  -- whether what is said after the change is within the limits
  pub fits : Bool
  pub limits : judged_change m c ≡ accepted → Decides (Within (after_change m c)) fits
  pub answer : reply ≡ unless (judged_change m c) (cond fits accepted (declined 19 0))

-- all that a change of lent memory gives; how the states after it are numbered, and what the free words hold, is free
pub record Changed (c : Change) (before after : List ℕ) (reply : Reply) : Type 0 where
  -- 17 of the list comes first
  pub bad : is_list before ≡ false → reply ≡ declined 17 0
  pub good : is_list before ≡ true → Answers (phones_for (words_of before)) c reply
  -- accepted: the memory holds the list after the change, and what lies past its words is kept
  pub list : reply ≡ accepted → is_list after ≡ true
  pub says : reply ≡ accepted → Says after (after_change (phones_for (words_of before)) c)
  pub rest : drop list_size after ≡ drop list_size before
  -- refused: every word is kept
  pub kept : (reply ≡ accepted → ⊥) → after ≡ before
