-- What the functions that change the words of a list ask and give: free words saved and put back, a name changed, the states that are left.
-- Assumes nothing.
use Rattle.std.specs.Prelude.{◌≡◌, ℕ, suc, ◌+◌, ◌≤◌, ◌<◌, Bool, true, false, cond, List, length, get_or, set, drop}
use Rattle.rules.specs.Limits.{max_name, max_states}
use Rattle.rules.specs.Refusals.{Reply, accepted, declined, unless}
use Rattle.automaton.specs.Automaton.{Str, rows_of, Laid, look, Letters, Sound, Needed, changed}
use Rattle.automaton.specs.Changes.{Phones}
use Rattle.automaton.specs.Listing.{names}
use Rattle.compaction.specs.Compaction.{Spread, marked, Swept}
use Rattle.packing.specs.Packing.{Bytes}
use Rattle.minimality.specs.Judging.{Decides}
use Rattle.exceptions.specs.Layout.{list_size, startWord, words_of, start_of, phones_for}
use Rattle.exceptions.specs.Judging.{IsList, is_list, judged_list, Says}
use Rattle.change.specs.Change.{Change, judged_change, Automaton, Within}

-- ---- the free words: 65 offsets from word n + 2 on, 5,590 words from the end of the cells on

-- they stand in `saved`
pub record Saved (ws : List ℕ) (n end : ℕ) (saved : List ℕ) : Type 0 where
  pub offsets : (j : ℕ) → j < 65 → get_or saved j 0 ≡ get_or ws (n + 2 + j) 0
  pub cells : (j : ℕ) → j < 5590 → get_or saved (65 + j) 0 ≡ get_or ws (end + j) 0

-- all words but them are kept
pub record Kept (ws : List ℕ) (n end : ℕ) (ws' : List ℕ) : Type 0 where
  pub low : (x : ℕ) → x < n + 2 → get_or ws' x 0 ≡ get_or ws x 0
  pub mid : (x : ℕ) → n + 67 ≤ x → x < end → get_or ws' x 0 ≡ get_or ws x 0
  pub high : (x : ℕ) → end + 5590 ≤ x → get_or ws' x 0 ≡ get_or ws x 0
  pub long : length ws' ≡ length ws

-- they are as in `saved`, all others as they were
pub record Restored (ws : List ℕ) (n end : ℕ) (saved ws' : List ℕ) : Type 0 where
  pub offsets : (j : ℕ) → j < 65 → get_or ws' (n + 2 + j) 0 ≡ get_or saved j 0
  pub cells : (j : ℕ) → j < 5590 → get_or ws' (end + j) 0 ≡ get_or saved (65 + j) 0
  pub kept : Kept ws n end ws'

-- where they lie
pub record FreeAsks (ws : List ℕ) (n end : ℕ) (saved : List ℕ) : Type 0 where
  pub before : n + 67 ≤ end
  pub room : end + 5590 ≤ length ws
  pub size : 5655 ≤ length saved

-- ---- the states that are left

-- rows to `top`, sound and in memory, no more than a change leads to
pub record SweepReady (ws : List ℕ) (top : ℕ) : Type 0 where
  pub sound : Sound (rows_of ws) top
  pub laid : Laid ws top
  pub states : top < 4162
  pub memory : startWord < length ws
  pub small : length ws ≤ 16777216

-- the rows with marks m alone, where they are no more than 4,096 and the blank one, with their start's number; else nothing is touched
pub record Swept? (ws m : List ℕ) (top : ℕ) (ws' : List ℕ) (r : Bool) : Type 0 where
  pub few : r ≡ true → (w : List ℕ) × (k : ℕ) × Swept ws m top w k × (k ≤ max_states) × (length w ≡ length ws) × (ws' ≡ set w startWord k)
  pub many : r ≡ false → (suc max_states < marked (λ x. get_or m x 0) (suc top)) × (ws' ≡ ws)

-- the same for the marks of what is reached from `top`
pub record Reached (ws : List ℕ) (top : ℕ) (ws' : List ℕ) (r : Bool) : Type 0 where
  pub marks : List ℕ
  pub spread : Spread ws top 0 marks
  pub swept : Swept? ws marks top ws' r

-- ---- one change, in groups of phones

-- a list, a name and its groups of phones (none: it is removed)
pub record GroupsAsk (ws : List ℕ) (name p : Str) : Type 0 where
  pub list : IsList ws
  pub size : length ws ≡ list_size
  pub few : length name ≤ max_name
  pub letters : Letters name
  pub phones : Phones p

-- what is said after it
abbrev pub after_groups : List ℕ → Str → Str → Str → Str
after_groups ws name p = changed name p (look (rows_of ws) (start_of ws))

-- how many names are then listed
unfoldable pub names_after : List ℕ → Str → Str → ℕ
names_after ws name p = length (names max_name (after_groups ws name p))

-- a minimal automaton of at most 4,096 states that says m
pub record Built (m : Str → Str) (ws : List ℕ) : Type 0 where
  pub states : start_of ws ≤ max_states
  pub laid : Laid ws (start_of ws)
  pub sound : Sound (rows_of ws) (start_of ws)
  pub needed : Needed (rows_of ws) (start_of ws)
  pub says : (w : Str) → Letters w → look (rows_of ws) (start_of ws) w ≡ m w
  pub size : length ws ≡ list_size

-- no automaton of at most 4,096 states says m
abbrev pub Crowded : (Str → Str) → Type 0
Crowded m = (k : ℕ) → k ≤ max_states → Automaton m k → ⊥

pub record Applied (ws : List ℕ) (n end : ℕ) (name p : Str) (ws' : List ℕ) (r : Bool) : Type 0 where
  pub done : r ≡ true → Built (after_groups ws name p) ws'
  pub full : r ≡ false → Crowded (after_groups ws name p) × Kept ws n end ws'

pub record Rebuilt (ws : List ℕ) (name p ws' : List ℕ) (r : Bool) : Type 0 where
  pub done : r ≡ true → Built (after_groups ws name p) ws'
  pub full : r ≡ false → Crowded (after_groups ws name p) × (ws' ≡ ws)

-- ---- one change, in phones

-- a list and a name
pub record ListAsks (ws : List ℕ) (name : Str) : Type 0 where
  pub list : IsList ws
  pub size : length ws ≡ list_size
  pub letters : Letters name

-- a list, a name and its phones (none: it is removed)
pub record PhonesAsk (ws : List ℕ) (name p : Str) : Type 0 where
  pub list : IsList ws
  pub size : length ws ≡ list_size
  pub some : 0 < length name
  pub few : length name ≤ max_name
  pub letters : Letters name
  pub phones : Bytes p

pub record Relisted (ws : List ℕ) (name p ws' : List ℕ) (r : Bool) : Type 0 where
  pub limits : Decides (Within (changed name p (phones_for ws))) r
  pub list : r ≡ true → IsList ws'
  pub says : r ≡ true → (w : Str) → Letters w → phones_for ws' w ≡ changed name p (phones_for ws) w
  pub kept : r ≡ false → ws' ≡ ws

-- ---- one change of a lent list

-- the refusals before the limits, 17 of the list first
unfoldable pub judged : List ℕ → Change → Reply
judged list c = unless (judged_list list) (judged_change (phones_for (words_of list)) c)

-- a list, a name and its phones, past these refusals
pub record ChangeAsks (list : List ℕ) (name p : Str) : Type 0 where
  pub is : is_list list ≡ true
  pub some : 0 < length name
  pub few : length name ≤ max_name
  pub letters : Letters name
  pub phones : Bytes p

-- the limits, and what the lent list is then
pub record Limited (m : Str → Str) (before after : List ℕ) (reply : Reply) : Type 0 where
  pub fits : Bool
  pub limits : Decides (Within m) fits
  pub answer : reply ≡ cond fits accepted (declined 19 0)
  pub list : reply ≡ accepted → is_list after ≡ true
  pub says : reply ≡ accepted → Says after m
  pub rest : drop list_size after ≡ drop list_size before
  pub kept : (reply ≡ accepted → ⊥) → after ≡ before
