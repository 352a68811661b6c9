-- The answers to many names in one call, put one after another: by any function that answers a name in lent memory.
-- Assumes nothing.
use Rattle.std.specs.Prelude.{ℕ, suc, ◌+◌, ◌-◌, ◌*◌, ◌≤◌, ◌≡◌, List, [], ◌∷◌, ◌++◌, length, get_or, take, drop}
use Rattle.rules.specs.Memory.{over}
use Rattle.fitting.specs.Fitting.{Str}
use Rattle.tables.specs.Walk.{Walked}
use Rattle.many_names.specs.Names.{names_in, name_at}
use Rattle.many_names.specs.Codes.{spoken_code, phones_or_place, phones_given, numbers_given, contested_given}
use Rattle.many_names.specs.declared.Progress.{Progress}

-- how many numbers a reply has
abbrev pub reply_size : ℕ
reply_size = 5

-- the reply to a name: its code, the phones given or the place, the numbers given, the steps, the contested letters
abbrev pub replied : Walked → List ℕ
replied w = spoken_code w.said.told ∷ phones_or_place w.said.told ∷ numbers_given w.said.told ∷ w.steps ∷ contested_given w.said.told ∷ []

-- how many names were answered, their replies, and the lent phones and numbers after them
pub record Lot : Type 0 where
  pub count : ℕ
  pub replies : List ℕ
  pub phones : List ℕ
  pub numbers : List ℕ

-- the answer to a name, and then a lot in the lent memory after it
abbrev pub then : Walked → Lot → Lot
then w l = record {
  count = suc l.count;
  replies = replied w ++ l.replies;
  phones = take (phones_given w.said.told) w.said.phones ++ l.phones;
  numbers = take (numbers_given w.said.told) w.said.numbers ++ l.numbers;
}

-- The names in turn, each answered by f in the part of the lent memory after the answers before it; a refused name takes none.
abbrev pub each : (Str → List ℕ → List ℕ → Walked) → List Str → List ℕ → List ℕ → Lot
each f [] phones numbers = record { count = 0; replies = []; phones = phones; numbers = numbers }
each f (n ∷ ns) phones numbers =
    then (f n phones numbers)
    (each f ns (drop (phones_given (f n phones numbers).said.told) (f n phones numbers).said.phones)
    (drop (numbers_given (f n phones numbers).said.told) (f n phones numbers).said.numbers))

-- ---- the same from where the answering stands, as the loop has it

module _ (f : Str → List ℕ → List ℕ → Walked) (names : List ℕ) (k : ℕ) where
  -- the lot that is to come after p
  abbrev pub rest : List ℕ → List ℕ → Progress → Lot
  rest phones numbers p = each f (names_in (k - p.count) (drop p.at names)) (drop p.phones phones) (drop p.numbers numbers)

  -- the whole call's lot, with replies in their lent memory: what stands before p, and then what is to come
  abbrev pub whole : List ℕ → List ℕ → List ℕ → Progress → Lot
  whole phones numbers replies p = record {
    count = p.count + (rest phones numbers p).count;
    replies = take (reply_size * p.count) replies ++ over (rest phones numbers p).replies (drop (reply_size * p.count) replies);
    phones = take p.phones phones ++ (rest phones numbers p).phones;
    numbers = take p.numbers numbers ++ (rest phones numbers p).numbers;
  }

  -- p lies in the lent memory
  pub record Within (phones numbers replies : List ℕ) (p : Progress) : Type 0 where
    pub at_in : p.at ≤ length names
    pub phones-in : p.phones ≤ length phones
    pub numbers-in : p.numbers ≤ length numbers
    pub count-in : p.count ≤ k
    pub replies-in : reply_size * k ≤ length replies

-- how one name is answered
module _ (f : Str → List ℕ → List ℕ → Walked) (names phones numbers replies : List ℕ) (p : Progress) where
  abbrev pub next_name : Walked
  next_name = f (name_at names p.at) (drop p.phones phones) (drop p.numbers numbers)

  pub record Next (phones' numbers' replies' : List ℕ) (p' : Progress) : Type 0 where
    pub at_next : p'.at ≡ p.at + 1 + get_or names p.at 0
    pub count_next : p'.count ≡ p.count + 1
    pub phones-next : p'.phones ≡ p.phones + phones_given next_name.said.told
    pub numbers-next : p'.numbers ≡ p.numbers + numbers_given next_name.said.told
    pub phones-now : phones' ≡ take p.phones phones ++ next_name.said.phones
    pub numbers-now : numbers' ≡ take p.numbers numbers ++ next_name.said.numbers
    pub replies-now : replies' ≡ take (reply_size * p.count) replies ++ (replied next_name ++ drop (reply_size * p.count + reply_size) replies)
