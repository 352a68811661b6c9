-- What a call that speaks a name comes to, whatever follows its judgements: 0, 17, 2 and 1 in turn, then the list.
-- Assumes nothing.
use Rattle.std.specs.Prelude.{Result, Ok, Err}
use Prim.Native.Nat.{ℕ, ◌≤◌}
use mathlib.Core.Path.{◌≡◌, refl, sym, ap, ◌∙◌}
use mathlib.Core.List.{List, [], ◌∷◌}
use mathlib.Core.Bool.{true, false, ◌&&◌}
use mathlib.Core.Option.{none, some}
use native.Mathlib.Omega.{arith}
use borrow.Author.Tests.{lt-leb}
use lib.Dec.{leb}
use lib.ListN.{length}
use Rattle.rules.specs.Names.{judged_name, SoundName}
use Rattle.rules.specs.Refusals.{refusal_number, refusal_place, declined, reply_of}
use Rattle.rules.specs.declared.Refusal.{Refusal}
use Rattle.rules.proofs.Cases.{by_bool}
use Rattle.rules.proofs.Names.{sound_judged, accepted_sound, Judgement, sound, judgement}
use Rattle.exceptions.specs.Layout.{words_of, phones_for}
use Rattle.exceptions.specs.Judging.{is_list, Listing, listing_of}
use Rattle.image.specs.Image.{valid}
use Rattle.fitting.specs.Fitting.{Str}
use Rattle.fitting.specs.Reading.{listed}
use Rattle.speech.specs.Speech.{Outcome, speaks, at_once, said_from, listed_or, Following, judged_call, said_of, Unlisted, ListedAs}

-- ---- what was found

module _ (name : Str) (a : Result (Unit {0}) Refusal) (is : reply_of a ≡ judged_name name) where
  pub found_refused : (x : Refusal) → a ≡ Err x → judged_name name ≡ declined (refusal_number x) (refusal_place x)
  found_refused x e = sym is ∙ ap reply_of e

  pub found_sound : a ≡ Ok tt → SoundName name
  found_sound e = accepted_sound name (sym is ∙ ap reply_of e)

pub listing_some : (list : List ℕ) → is_list list ≡ true → listing_of list ≡ some (phones_for (words_of list))
unfolding listing_of
listing_some list e = rw e

pub listing_none : (list : List ℕ) → is_list list ≡ false → listing_of list ≡ none
unfolding listing_of
listing_none list e = rw e

-- ---- what the call comes to

pub from_listed : (p : Str) (o : Outcome) → 1 ≤ length p → said_from p o ≡ speaks (listed p ∷ []) 0
from_listed [] o h = absurd (omega arith)
from_listed (x ∷ p) o h = refl

module _ (image : List ℕ) (name : Str) (o : Following) where
  pub call_invalid : (l : Listing) → valid image ≡ false → judged_call image l name o ≡ at_once 0 0
  call_invalid l e = rw e

  module _ (ok : valid image ≡ true) where
    pub call_none : (l : Listing) → l ≡ none → judged_call image l name o ≡ at_once 17 0
    call_none l e = rw (ok, e)

    pub call_refused : (l : Listing) (m : Str → Str) → l ≡ some m → (n p : ℕ) → judged_name name ≡ declined n p → judged_call image l name o ≡ at_once n p
    call_refused l m e n p h = rw (ok, e, h)

    pub call_sound : (l : Listing) (m : Str → Str) → l ≡ some m → SoundName name → judged_call image l name o ≡ listed_or m name (o m)
    call_sound l m e s = rw (ok, e, sound_judged name s)

    pub call_unlisted : (l : Listing) → SoundName name → Unlisted l name → judged_call image l name o ≡ o (said_of l)
    call_unlisted none s u = absurd u
    call_unlisted (some m) s u = rw (ok, sound_judged name s, u)

    pub call_listed : (l : Listing) (p : Str) → SoundName name → ListedAs l name p → judged_call image l name o ≡ speaks (listed p ∷ []) 0
    call_listed none p s u = absurd u
    call_listed (some m) p s u = rw (ok, sound_judged name s, u.0) (from_listed p (o m) u.1)

-- ---- its cases

-- the call is refused at once, not with 3 to 5; or the name is said from the list; or it is what follows, with the list
pub data CallCase (image : List ℕ) (l : Listing) (name : Str) : Type 0 where
  refuses : (n p : ℕ) → (leb 3 n && leb n 5) ≡ false → ((o : Following) → judged_call image l name o ≡ at_once n p) → CallCase image l name
  lists : (p : Str) → ListedAs l name p → ((o : Following) → judged_call image l name o ≡ speaks (listed p ∷ []) 0) → CallCase image l name
  follows : valid image ≡ true → SoundName name → Unlisted l name → ((o : Following) → judged_call image l name o ≡ o (said_of l)) → CallCase image l name

pub call_case : (image : List ℕ) (l : Listing) (name : Str) → CallCase image l name
call_case image l name = by_bool (valid image) (λ v. lent v l) (λ v. refuses 0 0 refl (λ o. call_invalid image name o l v))
  where
    looked_up : valid image ≡ true → (m : Str → Str) → SoundName name → (p : Str) → m name ≡ p → CallCase image (some m) name
    looked_up v m s [] e = follows v s e (λ o. call_unlisted image name o v (some m) s e)
    looked_up v m s (x ∷ p) e =
        let u : ListedAs (some m) name (x ∷ p) = (e, omega arith) in
        lists (x ∷ p) u (λ o. call_listed image name o v (some m) (x ∷ p) s u)

    judged : valid image ≡ true → (m : Str → Str) → Judgement name → CallCase image (some m) name
    judged v m (sound s) = looked_up v m s (m name) refl
    judged v m (Judgement.refuses n p h r) = refuses n p (rw (lt-leb 3 n h)) (λ o. call_refused image name o v (some m) m refl n p r)

    lent : valid image ≡ true → (k : Listing) → CallCase image k name
    lent v none = refuses 17 0 refl (λ o. call_none image name o v none refl)
    lent v (some m) = judged v m (judgement name)

-- two calls agree in what f makes of them, if they do for a sound name that is not on the list
pub call_alike : {A : Type 0} (f : Outcome → A) (image : List ℕ) (l : Listing) (name : Str) (o p : Following) → (SoundName name → f (o (said_of l)) ≡ f (p (said_of l)))
    → f (judged_call image l name o) ≡ f (judged_call image l name p)
call_alike f image l name o p h = by (call_case image l name)
  where
    by : CallCase image l name → f (judged_call image l name o) ≡ f (judged_call image l name p)
    by (refuses n q u r) = ap f (r o ∙ sym (r p))
    by (lists q u r) = ap f (r o ∙ sym (r p))
    by (follows v s u r) = ap f (r o) ∙ (h s ∙ ap f (sym (r p)))
