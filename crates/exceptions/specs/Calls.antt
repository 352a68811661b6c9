-- What the calls that make, count and look up a list give.
-- Assumes nothing.
use Rattle.std.specs.Prelude.{ℕ, ◌≤◌, ◌≡◌, cond, Option, Some, None, List, [], ◌∷◌, leb, length, set}
use Rattle.rules.specs.Memory.{over}
use Rattle.rules.specs.Refusals.{Reply, accepted, declined}
use Rattle.automaton.specs.Automaton.{Str}
use Rattle.exceptions.specs.Layout.{list_size, startWord, words_of, start_of, phones_for, phones_ending, names_in, states_in}
use Rattle.exceptions.specs.Judging.{IsList, is_list, says_of, StateOf}
use Rattle.exceptions.specs.declared.Lookup.{Lookup}
use Rattle.exceptions.specs.declared.Lookup.TheVariants.{Unlisted, Given, NoRoom}

-- ---- the empty list

pub record Emptied : Type 0 where
  pub reply : Reply
  pub list : List ℕ

abbrev pub emptying : Reply → List ℕ → Emptied
emptying r list = record { reply = r; list = list }

-- the empty list, in memory that held anything: three words are written; memory too short for a list is refused and kept
unfoldable pub emptied : List ℕ → Emptied
emptied list =
    cond (leb list_size (length list)) (emptying accepted (set (set (set list 0 4200) 1 4200) startWord 0)) (emptying (declined 17 0) list)

-- ---- counts, 0 where the memory is no list

unfoldable pub name_count : List ℕ → ℕ
name_count list = cond (is_list list) (names_in (words_of list)) 0

unfoldable pub state_count : List ℕ → ℕ
state_count list = cond (is_list list) (states_in (words_of list)) 0

-- ---- a name looked up: its phones go into the lent bytes where they have room (refusal 4)

pub record LookedUp : Type 0 where
  pub answer : Lookup
  pub phones : List ℕ

abbrev pub looking_up : Lookup → List ℕ → LookedUp
looking_up a phones = record { answer = a; phones = phones }

-- p is what the list says of the name
unfoldable pub looked_up : Str → List ℕ → LookedUp
looked_up [] phones = looking_up Unlisted phones
looked_up (x ∷ p) phones =
    cond (leb (length (x ∷ p)) (length phones)) (looking_up (Given (length (x ∷ p))) (over (x ∷ p) phones)) (looking_up (NoRoom (length (x ∷ p))) phones)

-- ---- the state in which a listed name ends

-- the phones of the state are those that the words say of the name, of which there are some; or they say none
abbrev pub EndsIn : List ℕ → Str → Option ℕ → Type 0
EndsIn ws w (Some q) = (q ≤ start_of ws) × (phones_ending ws q ≡ phones_for ws w) × (1 ≤ length (phones_for ws w))
EndsIn ws w None = phones_for ws w ≡ []

-- the same of a lent list, or of memory too short for one
abbrev pub EndsInList : List ℕ → Str → Option ℕ → Type 0
EndsInList list w (Some q) = StateOf list q × (phones_ending (words_of list) q ≡ says_of list w) × (1 ≤ length (says_of list w))
EndsInList list w None = says_of list w ≡ []

-- q is a state of words that are a list
pub record StateIn (ws : List ℕ) (q : ℕ) : Type 0 where
  pub size : list_size ≤ length ws
  pub list : IsList ws
  pub inside : q ≤ start_of ws
