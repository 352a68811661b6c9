-- The answers to the names of a sheet, from what was kept of them: each is what the name comes to, said in the lent memory that is left.
-- Assumes nothing.
use Rattle.std.specs.Prelude.{ℕ, ◌<◌, ◌≡◌, List, [], length, get_or, Result}
use Rattle.rules.specs.Memory.{over}
use Rattle.fitting.specs.Fitting.{Str}
use Rattle.speech.specs.Speech.{Outcome, told_of, saying, delivered}
use Rattle.speech.specs.declared.Spoken.{Spoken}
use Rattle.rules.specs.declared.Refusal.{Refusal}
use Rattle.tables.specs.Walk.{Walked}
use Rattle.many_names.specs.Names.{names_in, name_at}
use Rattle.many_names.specs.Many.{each, Next}
use Rattle.many_names.specs.declared.Progress.{Progress}
use Rattle.sheet_name.specs.Judging.{Unsent, Kept}
use Rattle.sheet_judging.specs.Kept.{parts_of, PartsAt}

-- a name said as f says that it comes to; a sheet has one count, and its names have none
abbrev pub said_by : (Str → Outcome) → Str → List ℕ → List ℕ → Walked
said_by f name phones numbers = record { said = delivered (f name) phones numbers; steps = 0 }

-- ---- one name: something is kept of it, and whatever it comes to by that is said

pub record SomeUnsent (list : List ℕ) (name : Str) : Type 0 where
  pub outcome : Outcome
  pub unsent : Unsent list name outcome

abbrev pub SaysUnsent : List ℕ → Str → List ℕ → List ℕ → Result Spoken Refusal → Type 0
SaysUnsent list name phones phones' s = (o : Outcome) (numbers : List ℕ) → Unsent list name o → saying (told_of s) phones' numbers ≡ delivered o phones numbers

pub record SomeKept (image list : List ℕ) (name : Str) (end : ℕ) (parts : List ℕ) : Type 0 where
  pub outcome : Outcome
  pub kept : Kept image list name end parts outcome

abbrev pub SaysKept : List ℕ → List ℕ → Str → ℕ → List ℕ → List ℕ → List ℕ → List ℕ → List ℕ → Result Spoken Refusal → Type 0
SaysKept image list name end parts phones numbers phones' numbers' s = (o : Outcome) → Kept image list name end parts o → saying (told_of s) phones' numbers' ≡ delivered o phones numbers

-- ---- the names of a sheet, where `ends`, `starts` and `kept` have what is kept of them

module _ (image list sheet ends starts kept : List ℕ) where
  -- what is kept of name j, which is `name` and comes to o
  abbrev pub KeptAt : ℕ → Str → Outcome → Type 0
  KeptAt j name o = Kept image list name (get_or ends j 0) (parts_of ends starts kept j) o

  -- it lies in the lent memory
  pub record SomeKeptAt (j : ℕ) (name : Str) : Type 0 where
    pub placed : PartsAt ends starts kept j
    pub outcome : Outcome
    pub held : KeptAt j name outcome

  -- the next name
  abbrev pub NextKept : List ℕ → List ℕ → List ℕ → Progress → List ℕ → List ℕ → List ℕ → Progress → Type 0
  NextKept phones numbers replies p phones' numbers' replies' p' =
      (f : Str → Outcome) → KeptAt p.count (name_at sheet p.at) (f (name_at sheet p.at)) → Next (said_by f) sheet phones numbers replies p phones' numbers' replies' p'

  -- all names, the first k whole ones, by what they come to
  abbrev pub KeptBy : ℕ → (Str → Outcome) → Type 0
  KeptBy k f = (j : ℕ) → j < length (names_in k sheet) → KeptAt j (get_or (names_in k sheet) j []) (f (get_or (names_in k sheet) j []))

  pub record SomeKeptBy (k : ℕ) : Type 0 where
    pub placed : (j : ℕ) → j < length (names_in k sheet) → PartsAt ends starts kept j
    pub outcomes : Str → Outcome
    pub held : KeptBy k outcomes

-- all names answered in turn
pub record AnsweredBy (f : Str → Outcome) (sheet : List ℕ) (k : ℕ) (phones numbers replies phones' numbers' replies' : List ℕ) (count : ℕ) : Type 0 where
  pub count-is : count ≡ (each (said_by f) (names_in k sheet) phones numbers).count
  pub replies-are : replies' ≡ over (each (said_by f) (names_in k sheet) phones numbers).replies replies
  pub phones-are : phones' ≡ (each (said_by f) (names_in k sheet) phones numbers).phones
  pub numbers-are : numbers' ≡ (each (said_by f) (names_in k sheet) phones numbers).numbers

abbrev pub AnsweredAll : List ℕ → List ℕ → List ℕ → List ℕ → List ℕ → List ℕ → ℕ → List ℕ → List ℕ → List ℕ → List ℕ → List ℕ → List ℕ → ℕ → Type 0
AnsweredAll image list sheet ends starts kept k phones numbers replies phones' numbers' replies' count =
    (f : Str → Outcome) → KeptBy image list sheet ends starts kept k f → AnsweredBy f sheet k phones numbers replies phones' numbers' replies' count
