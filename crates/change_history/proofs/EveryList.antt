-- The claim over the list itself: every list of changes whose names and phones are slices of bytes has a code and a text that a call can be
-- lent, and of that call's outcome the claim holds for this very list.
-- Assumes nothing.
use Prim.Native.Nat.{ℕ, zero, suc, ◌+◌, ◌*◌, ◌<◌, ◌≤◌, ◌/◌}
use mathlib.Core.Path.{◌≡◌, refl, ap, ap₂, subst, ◌∙◌}
use mathlib.Core.List.{List, [], ◌∷◌, ◌++◌}
use native.Mathlib.Omega.{arith}
use borrow.Author.Tests.{le-leb}
use lib.ListN.{length, take, drop}
use lib.Seq.{take_at, drop_at}
use Rattle.rules.specs.Memory.{Below, word_bound}
use Rattle.rules.specs.Refusals.{accepted}
use Rattle.exceptions.specs.Layout.{list_size}
use Rattle.exceptions.specs.Calls.{emptied}
use Rattle.change.specs.Change.{Change}
use Rattle.change.specs.Change.Change.{Add, Remove}
use Rattle.change_history.specs.Code.{change_words, coded_change, coded_changes, name_of, phones_of, kind_of, words_all, text_all, TypedAll}
use Rattle.change_history.specs.Replay.{turns, taken, FromEmpty, ReplayedList}

-- ---- the code of a list says the list

change_said : (c : Change) (ws text : List ℕ) → coded_change (kind_of c ∷ length (name_of c) ∷ length (phones_of c) ∷ ws) (name_of c ++ (phones_of c ++ text)) ≡ c
change_said (Add name p) ws text =
    ap₂ Add (take_at name (p ++ text) (length name) refl)
    (ap (take (length p)) (drop_at name (p ++ text) (length name) refl) ∙ take_at p text (length p) refl)
change_said (Remove name) ws text = ap Remove (take_at name text (length name) refl)

text_past : (a b text : List ℕ) → drop (length b) (drop (length a) (a ++ (b ++ text))) ≡ text
text_past a b text = ap (drop (length b)) (drop_at a (b ++ text) (length a) refl) ∙ drop_at b text (length b) refl

onto : (cs : List Change) → coded_changes (length cs) (words_all cs) (text_all cs) ≡ cs
onto [] = refl
onto (c ∷ cs) =
    ap₂ (λ (x : Change) (l : List Change). x ∷ l) (change_said c (words_all cs) (text_all cs))
    (ap (coded_changes (length cs) (words_all cs)) (text_past (name_of c) (phones_of c) (text_all cs)) ∙ onto cs)

length_all : (cs : List Change) → length (words_all cs) ≡ length cs * change_words
length_all [] = refl
length_all (c ∷ cs) = omega (arith, length_all cs)

-- where each change has room for its answer, all are taken
taken_whole : (cs : List Change) (answers places : List ℕ) → length cs ≤ length answers → length cs ≤ length places
    → taken (words_all cs) (text_all cs) answers places ≡ cs
taken_whole cs answers places h k =
    let c : length (words_all cs) / change_words ≡ length cs = omega (arith, length_all cs) in
    let n : turns (length (words_all cs)) (length answers) (length places) ≡ length cs = omega arith in
    ap (λ (m : ℕ). coded_changes m (words_all cs) (text_all cs)) n ∙ onto cs

-- ---- its words are words and its text is bytes

kind_word : (c : Change) → kind_of c < word_bound
kind_word (Add name p) = omega arith
kind_word (Remove name) = omega arith

all_words : (cs : List Change) → TypedAll cs → Below word_bound (words_all cs)
all_words [] t k = omega arith
all_words (c ∷ cs) t zero = kind_word c
all_words (c ∷ cs) t (suc zero) = t.0.name.size
all_words (c ∷ cs) t (suc (suc zero)) = t.0.phones.size
all_words (c ∷ cs) t (suc (suc (suc k))) = all_words cs t.1 k

joined_below : (b : ℕ) (s l : List ℕ) → Below b s → Below b l → Below b (s ++ l)
joined_below b [] l h k i = k i
joined_below b (x ∷ s) l h k zero = h zero
joined_below b (x ∷ s) l h k (suc i) = joined_below b s l (λ j. h (suc j)) k i

all_bytes : (cs : List Change) → TypedAll cs → Below 256 (text_all cs)
all_bytes [] t = λ k. omega arith
all_bytes (c ∷ cs) t =
    joined_below 256 (name_of c) (phones_of c ++ text_all cs) t.0.name.bytes
    (joined_below 256 (phones_of c) (text_all cs) t.0.phones.bytes (all_bytes cs t.1))

-- ---- the claim

-- memory that has room for a list is not refused
pub replay_accepted : (list : List ℕ) → list_size ≤ length list → (emptied list).reply ≡ accepted
unfolding emptied
replay_accepted list h = rw (le-leb _ _ h)

pub every_list : (cs : List Change) → TypedAll cs → (list answers places : List ℕ)
    → list_size ≤ length list → length cs ≤ length answers → length cs ≤ length places → ReplayedList cs list answers places
every_list cs t list answers places h k l =
    let w : taken (words_all cs) (text_all cs) answers places ≡ cs = taken_whole cs answers places k l in
    let a : (emptied list).reply ≡ accepted = replay_accepted list h in
    record {
      size = length_all cs;
      words = all_words cs t;
      bytes = all_bytes cs t;
      whole = w;
      reply = a;
      claim = λ r list' answers' places' d. subst (λ (x : List Change). FromEmpty x answers places list' answers' places') w (d.claim (d.answer ∙ a));
    }
