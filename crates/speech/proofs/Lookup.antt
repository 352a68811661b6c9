-- A name looked up in the list, as an answer.
-- Assumes nothing.
use Rattle.std.specs.Prelude.{Err, None, Ok, Option, Result, Some}
use Prim.Native.Nat.{ℕ, ◌≤◌, ◌<◌}
use mathlib.Core.Path.{◌≡◌, refl, sym, ap, ap₂, ◌∙◌, subst}
use mathlib.Core.List.{List, [], ◌∷◌}
use mathlib.Core.Bool.{Bool, true, false, cond}
use native.Mathlib.Omega.{arith}
use lib.Dec.{leb}
use lib.ListN.{length}
use Rattle.rules.specs.Memory.{over}
use Rattle.rules.specs.declared.Refusal.TheVariants.{PhonesRoom}
use Rattle.rules.proofs.Cases.{by_bool}
use Rattle.rules.specs.Names.{SoundName}
use Rattle.exceptions.specs.Layout.{list_size, words_of, phones_for}
use Rattle.exceptions.specs.Judging.{is_list, says_of}
use Rattle.exceptions.proofs.Looking.{says_list, says_none}
use Rattle.exceptions.specs.Calls.{LookedUp, looking_up, looked_up}
use Rattle.exceptions.specs.declared.Lookup.{Lookup}
use Rattle.exceptions.specs.declared.Lookup.TheVariants.{Unlisted as Absent, Given, NoRoom}
use Rattle.fitting.specs.Fitting.{Str}
use Rattle.fitting.specs.Reading.{listed}
use Rattle.speech.specs.Speech.{Outcome, speaks, steps_of, said_from, spoken, refused, told_of, saying, delivered}
use Rattle.speech.specs.Places.{Unsaid, SaysListed}
use Rattle.speech.specs.declared.Spoken.{Spoken}
use Rattle.rules.specs.declared.Refusal.{Refusal}
use Rattle.speech.proofs.Call.{from_listed}
use Rattle.speech.proofs.ListedNames.{listed_delivered}

-- the answer where there is room, and where there is none
listed_by : (p : Str) (phones numbers : List ℕ) (b : Bool) → leb (length p) (length phones) ≡ b
    → cond b (saying (spoken (length p) 0 0) (over p phones) numbers) (saying (refused 4 (length p)) phones numbers) ≡ delivered (speaks (listed p ∷ []) 0) phones numbers
listed_by p phones numbers b e =
    sym (listed_delivered p phones numbers ∙ ap (λ (t : Bool). cond t (saying (spoken (length p) 0 0) (over p phones) numbers) (saying (refused 4 (length p)) phones numbers)) e)

-- which of the three a look-up gave, and how many phones
kind : Lookup → ℕ
kind Absent = 0
kind (Given n) = 1
kind (NoRoom n) = 2

size : Lookup → ℕ
size Absent = 0
size (Given n) = n
size (NoRoom n) = n

data Found (p : Str) (phones : List ℕ) : Type 0 where
  absent : p ≡ [] → looked_up p phones ≡ looking_up Absent phones → Found p phones
  fitting : 1 ≤ length p → leb (length p) (length phones) ≡ true → looked_up p phones ≡ looking_up (Given (length p)) (over p phones) → Found p phones
  short : 1 ≤ length p → leb (length p) (length phones) ≡ false → looked_up p phones ≡ looking_up (NoRoom (length p)) phones → Found p phones

found : (p : Str) (phones : List ℕ) → Found p phones
unfolding looked_up
found [] phones = absent refl refl
found (x ∷ p) phones =
    by_bool (leb (length (x ∷ p)) (length phones)) (λ e. fitting (omega arith) e (rw e)) (λ e. short (omega arith) e (rw e))

module _ (p : Str) (phones after : List ℕ) (r : Lookup) (is : looking_up r after ≡ looked_up p phones) where
  tells : {A : Type 0} (f : LookedUp → A) (q : Lookup) → r ≡ q → (x : LookedUp) → looked_up p phones ≡ x → f (looking_up q after) ≡ f x
  tells f q e x g = ap f (ap (λ (y : Lookup). looking_up y after) (sym e) ∙ (is ∙ g))

  -- another kind of answer
  other : (q : Lookup) → r ≡ q → (x : LookedUp) → looked_up p phones ≡ x → (kind q ≡ kind x.answer → ⊥) → ⊥
  other q e x g h = h (tells (λ y. kind y.answer) q e x g)

  pub found_none : r ≡ Absent → SaysListed p phones after None
  unfolding kind
  found_none e = by (found p phones)
    where
      by : Found p phones → SaysListed p phones after None
      by (absent n g) = (n, tells (λ y. y.phones) Absent e _ g)
      by (fitting h f g) = absurd (other Absent e _ g (λ z. omega arith))
      by (short h f g) = absurd (other Absent e _ g (λ z. omega arith))

  pub found_given : (n : ℕ) → r ≡ Given n → SaysListed p phones after (Some (Ok (record { phones = n; numbers = 0; contested = 0 })))
  unfolding kind size
  found_given n e = by (found p phones)
    where
      by : Found p phones → SaysListed p phones after (Some (Ok (record { phones = n; numbers = 0; contested = 0 })))
      by (absent m g) = absurd (other (Given n) e _ g (λ z. omega arith))
      by (fitting h f g) = (
        h,
        λ numbers.
            ap₂ (λ (k : ℕ) (l : List ℕ). saying (spoken k 0 0) l numbers) (tells (λ y. size y.answer) (Given n) e _ g) (tells (λ y. y.phones) (Given n) e _ g)
            ∙ listed_by p phones numbers true f,
      )
      by (short h f g) = absurd (other (Given n) e _ g (λ z. omega arith))

  pub found_short : (n : ℕ) → r ≡ NoRoom n → SaysListed p phones after (Some (Err (PhonesRoom n)))
  unfolding kind size
  found_short n e = by (found p phones)
    where
      by : Found p phones → SaysListed p phones after (Some (Err (PhonesRoom n)))
      by (absent m g) = absurd (other (NoRoom n) e _ g (λ z. omega arith))
      by (fitting h f g) = absurd (other (NoRoom n) e _ g (λ z. omega arith))
      by (short h f g) = (
        h,
        λ numbers.
            ap₂ (λ (k : ℕ) (l : List ℕ). saying (refused 4 k) l numbers) (tells (λ y. size y.answer) (NoRoom n) e _ g) (tells (λ y. y.phones) (NoRoom n) e _ g)
            ∙ listed_by p phones numbers false f,
      )

-- so the answer follows, where o follows for a name that is not listed
module _ (p : Str) (o : Outcome) (phones after numbers : List ℕ) (r : Option (Result Spoken Refusal)) (is : SaysListed p phones after r) where
  pub listed_answer : (s : Result Spoken Refusal) → r ≡ Some s → saying (told_of s) after numbers ≡ delivered (said_from p o) phones numbers
  listed_answer s e =
      let l : SaysListed p phones after (Some s) = subst (SaysListed p phones after) e is in
      l.1 numbers ∙ ap (λ (x : Outcome). delivered x phones numbers) (sym (from_listed p o l.0))

  pub listed_steps : (s : Result Spoken Refusal) → r ≡ Some s → steps_of (said_from p o) ≡ 0
  listed_steps s e = let l : SaysListed p phones after (Some s) = subst (SaysListed p phones after) e is in ap steps_of (from_listed p o l.0)

  pub unlisted_answer : {A : Type 0} (f : Outcome → List ℕ → A) → r ≡ None → f o after ≡ f (said_from p o) phones
  unlisted_answer f e =
      let l : SaysListed p phones after None = subst (SaysListed p phones after) e is in
      ap₂ f (ap (λ (q : Str). said_from q o) (sym l.0)) l.1

  pub unlisted_none : r ≡ None → p ≡ []
  unlisted_none e = let l : SaysListed p phones after None = subst (SaysListed p phones after) e is in l.0

-- ---- a lent list, and too few words for one, as what follows asks for them

pub says_all : (list : List ℕ) → is_list list ≡ true → says_of list ≡ phones_for (words_of list)
says_all list h = λ i w. says_list list h w i

pub says_nothing : (list : List ℕ) → length list < list_size → says_of list ≡ (λ w. [])
says_nothing list h = λ i w. says_none list h w i

pub unsaid_list : (list : List ℕ) (name : Str) → is_list list ≡ true → SoundName name → phones_for (words_of list) name ≡ [] → Unsaid list name
unsaid_list list name h s e = record { known = λ u. h; sound = s; absent = says_list list h name ∙ e }

pub unsaid_none : (list : List ℕ) (name : Str) → length list < list_size → SoundName name → Unsaid list name
unsaid_none list name h s = record { known = λ u. absurd (omega arith); sound = s; absent = says_none list h name }
