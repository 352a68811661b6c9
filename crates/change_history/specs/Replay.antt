-- A list of changes from the empty list, one after the other (document 02, request 1): each answer with its place, and the list after them.
-- Assumes nothing.
use Rattle.std.specs.Prelude.{◌≡◌, ℕ, ◌*◌, ◌/◌, min, true, List, [], ◌∷◌, map, length, drop}
use Rattle.rules.specs.Memory.{over, Below, word_bound}
use Rattle.rules.specs.Refusals.{Reply, accepted, declined, reply_code, reply_place}
use Rattle.automaton.specs.Automaton.{Str}
use Rattle.exceptions.specs.Layout.{list_size, words_of}
use Rattle.exceptions.specs.Judging.{is_list, Says}
use Rattle.exceptions.specs.Worded.{Minimal}
use Rattle.exceptions.specs.Calls.{emptied}
use Rattle.change.specs.Change.{Change, Answers, after_change}
use Rattle.change_history.specs.Code.{change_words, coded_changes, words_all, text_all}

-- as many changes are taken as are coded and have room for the code and the place of their answer
abbrev pub turns : ℕ → ℕ → ℕ → ℕ
turns code answers places = min (code / change_words) (min answers places)

abbrev pub taken : List ℕ → List ℕ → List ℕ → List ℕ → List Change
taken code text answers places = coded_changes (turns (length code) (length answers) (length places)) code text

-- ---- what is answered, and what is said after it

-- what is said after a change that was answered so
abbrev pub after_reply : (Str → Str) → Change → Reply → (Str → Str)
after_reply m c accepted = after_change m c
after_reply m c (declined n p) = m

-- the replies rs answer the changes cs, one after the other, from a list that says m
abbrev pub AllAnswered : (Str → Str) → List Change → List Reply → Type 0
AllAnswered m [] [] = Unit {0}
AllAnswered m [] (r ∷ rs) = ⊥
AllAnswered m (c ∷ cs) [] = ⊥
AllAnswered m (c ∷ cs) (r ∷ rs) = Answers m c r × AllAnswered (after_reply m c r) cs rs

-- what is said after them; each name has the phones of the last accepted change that names it (proofs/LastPhones)
abbrev pub said_after : (Str → Str) → List Change → List Reply → (Str → Str)
said_after m [] rs = m
said_after m (c ∷ cs) [] = m
said_after m (c ∷ cs) (r ∷ rs) = said_after (after_reply m c r) cs rs

-- the empty list says nothing of any name
abbrev pub nothing : Str → Str
nothing w = []

-- ---- the claim

-- The claim over the changes cs from the empty list, refused ones included, in memory that held answers₀ and places₀.
pub record FromEmpty (cs : List Change) (answers₀ places₀ list answers places : List ℕ) : Type 0 where
  -- each answer with its place; what lies past them keeps its contents
  pub replies : List Reply
  pub answered : AllAnswered nothing cs replies
  pub codes : answers ≡ over (map reply_code replies) answers₀
  pub spots : places ≡ over (map reply_place replies) places₀
  -- the memory holds a list, which says just the names added and not removed since, with their last phones
  pub is : is_list list ≡ true
  pub says : Says list (said_after nothing cs replies)
  -- with no two states that have the same endings with the same phones, each reached and leading to a name
  pub minimal : Minimal (words_of list)

-- the same of changes on an empty list; what lies past the list's words is kept
pub record ReplayedAll (cs : List Change) (list answers places list' answers' places' : List ℕ) : Type 0 where
  pub claim : FromEmpty cs answers places list' answers' places'
  pub rest : drop list_size list' ≡ drop list_size list

-- what a call of replay gives: memory too short for a list is refused, and then all lent memory is kept
pub record Replayed (list code text answers places : List ℕ) (reply : Reply) (list' answers' places' : List ℕ) : Type 0 where
  pub answer : reply ≡ (emptied list).reply
  pub claim : reply ≡ accepted → FromEmpty (taken code text answers places) answers places list' answers' places'
  pub rest : drop list_size list' ≡ drop list_size list
  pub kept_list : (reply ≡ accepted → ⊥) → list' ≡ list
  pub kept_answers : (reply ≡ accepted → ⊥) → answers' ≡ answers
  pub kept_places : (reply ≡ accepted → ⊥) → places' ≡ places

-- The list cs, coded and replayed.
pub record ReplayedList (cs : List Change) (list answers places : List ℕ) : Type 0 where
  -- its code is a slice of words and its text one of bytes, so a call can be lent them
  pub size : length (words_all cs) ≡ length cs * change_words
  pub words : Below word_bound (words_all cs)
  pub bytes : Below 256 (text_all cs)
  -- the changes taken are the list, the call is accepted, and the claim holds of what it gives
  pub whole : taken (words_all cs) (text_all cs) answers places ≡ cs
  pub reply : (emptied list).reply ≡ accepted
  pub claim : (r : Reply) (list' answers' places' : List ℕ) → Replayed list (words_all cs) (text_all cs) answers places r list' answers' places'
      → FromEmpty cs answers places list' answers' places'
