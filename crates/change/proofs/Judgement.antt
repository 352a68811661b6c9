-- The refusals of a change in their order, and what a change that is past them asks; all that a call gives.
-- Assumes nothing.
use mathlib.Core.Path.{◌≡◌, refl, sym, ap, ◌∙◌, subst}
use Prim.Native.Nat.{ℕ, zero, suc, ◌≤◌, ◌<◌}
use native.Mathlib.Nat.{not-suc-le-zero}
use native.Mathlib.Omega.{arith}
use mathlib.Core.Bool.{Bool, true, false, cond, not, ◌&&◌}
use mathlib.Core.List.{List, [], ◌∷◌}
use lib.Dec.{leb, ltb}
use lib.ListN.{length, get_or, take}
use borrow.Author.Tests.{not-true, not-false, ltb-true, leb-true, lt-ltb, le-ltb, le-leb, lt-leb}
use Rattle.rules.specs.Limits.{max_phone, max_listed_phones}
use Rattle.rules.specs.Shape.{all_from}
use Rattle.rules.specs.Refusals.{Reply, accepted, declined, unless}
use Rattle.rules.specs.Names.{judged_name}
use Rattle.rules.proofs.Cases.{by_bool, and_l, and_r}
use Rattle.rules.proofs.Names.{accepted_sound}
use Rattle.automaton.specs.Automaton.{Str, rows_of, look}
use Rattle.automaton.specs.Listing.{none?}
use Rattle.automaton.proofs.Tests.{clash}
use Rattle.packing.specs.Packing.{Bytes, unpack}
use Rattle.minimality.specs.Judging.{Decides}
use Rattle.exceptions.specs.Layout.{list_size, words_of, start_of, phones_for}
use Rattle.exceptions.specs.Judging.{IsList, is_list, judged_list}
use Rattle.exceptions.proofs.Decided.{list_long, list_facts}
use Rattle.exceptions.proofs.Judged.{front_size}
use Rattle.exceptions.proofs.Names.{sound_letters}
use Rattle.exceptions.proofs.States.{unpack_none, nothing_said}
use Rattle.change.specs.Change.{good_entry, Change, judged_entry, judged_listed, judged_change, after_change, Changed}
use Rattle.change.specs.Change.Change.{Add, Remove}
use Rattle.change.specs.Steps.{ListAsks, judged, ChangeAsks, Limited}
use Rattle.change.proofs.Lent.{never_accepted}

-- ---- 17 of the list comes first

pub list_refused : (list : List ℕ) (c : Change) (t : Bool) → t ≡ is_list list → not t ≡ true → declined 17 0 ≡ judged list c
unfolding judged
list_refused list c t e h = sym (ap (λ (b : Bool). unless (cond b accepted (declined 17 0)) (judged_change (phones_for (words_of list)) c)) (sym e ∙ not-true t h))

pub list_good : (list : List ℕ) (t : Bool) → t ≡ is_list list → not t ≡ false → is_list list ≡ true
list_good list t e h = sym e ∙ not-false t h

list_passed : (list : List ℕ) (c : Change) → is_list list ≡ true → judged_change (phones_for (words_of list)) c ≡ judged list c
unfolding judged
list_passed list c e = sym (ap (λ (b : Bool). unless (cond b accepted (declined 17 0)) (judged_change (phones_for (words_of list)) c)) e)

-- ---- then 2 and 1, then 17 of the entry

pub addition_refused : (list : List ℕ) (name p : Str) (n q : ℕ) → is_list list ≡ true → declined n q ≡ judged_name name → declined n q ≡ judged list (Add name p)
addition_refused list name p n q l e = ap (λ (r : Reply). unless r (judged_entry name p)) e ∙ list_passed list (Add name p) l

pub addition_judged : (list : List ℕ) (name p : Str) (r b : Bool) → is_list list ≡ true → accepted ≡ judged_name name → r ≡ good_entry name p → r ≡ b → cond b accepted (declined 17 0) ≡ judged list (Add name p)
unfolding good_entry
addition_judged list name p r b l e g h =
    ap (λ (b : Bool). cond b accepted (declined 17 0)) (sym h ∙ g) ∙ (ap (λ (r : Reply). unless r (judged_entry name p)) e ∙ list_passed list (Add name p) l)

pub entry_nameless : (name p : Str) → length name ≡ 0 → false ≡ good_entry name p
unfolding good_entry
entry_nameless name p e = sym (ap (λ (b : Bool). b && (ltb 0 (length p) && (leb (length p) max_listed_phones && all_from max_phone p))) (le-ltb 0 (length name) (omega arith)))

module _ (name p : Str) (ne : length name ≡ 0 → ⊥) where
  named : (ltb 0 (length p) && (leb (length p) max_listed_phones && all_from max_phone p)) ≡ good_entry name p
  unfolding good_entry
  named = sym (ap (λ (b : Bool). b && (ltb 0 (length p) && (leb (length p) max_listed_phones && all_from max_phone p))) (lt-ltb 0 (length name) (omega arith)))

  pub entry_silent : length p ≡ 0 → false ≡ good_entry name p
  entry_silent e = sym (ap (λ (b : Bool). b && (leb (length p) max_listed_phones && all_from max_phone p)) (le-ltb 0 (length p) (omega arith))) ∙ named

  module _ (some : length p ≡ 0 → ⊥) where
    voiced : (leb (length p) max_listed_phones && all_from max_phone p) ≡ good_entry name p
    voiced = sym (ap (λ (b : Bool). b && (leb (length p) max_listed_phones && all_from max_phone p)) (lt-ltb 0 (length p) (omega arith))) ∙ named

    pub entry_long : max_listed_phones < length p → false ≡ good_entry name p
    entry_long h = sym (ap (λ (b : Bool). b && all_from max_phone p) (lt-leb (length p) max_listed_phones h)) ∙ voiced

    pub entry_found : length p ≤ max_listed_phones → (r : Bool) → r ≡ all_from max_phone p → r ≡ good_entry name p
    entry_found h r e = e ∙ (sym (ap (λ (b : Bool). b && all_from max_phone p) (le-leb (length p) max_listed_phones h)) ∙ voiced)

-- ---- or 18

none_bytes : Bytes []
none_bytes = record { few = omega arith; sounded = λ k h. absurd (not-suc-le-zero h); bytes = λ k h. absurd (not-suc-le-zero h) }

-- a list says nothing of a name just where it has no groups for it
module _ (ws : List ℕ) (name : Str) (a : ListAsks ws name) (r : Bool) (d : Decides (look (rows_of ws) (start_of ws) name ≡ []) r) where
  none_is : (p : Str) → p ≡ [] → none? p ≡ true
  none_is p e = ap none? e

  none_not : (p : Str) → (p ≡ [] → ⊥) → none? p ≡ false
  none_not [] ne = absurd (ne refl)
  none_not (x ∷ p) ne = refl

  pub unlisted_is : r ≡ none? (phones_for ws name)
  unfolding phones_for
  unlisted_is =
      by_bool r
      (λ e. e ∙ sym (none_is (unpack (look (rows_of ws) (start_of ws) name)) (ap unpack (d.yes e) ∙ unpack_none)))
      (λ e. e ∙ sym (none_not (unpack (look (rows_of ws) (start_of ws) name)) (λ o. d.no e (nothing_said ws (start_of ws) a.list.sound a.list.phones (start_of ws) (omega arith) name a.letters o))))

-- the words of a lent list; k is their size, the literal of the code
module _ (list : List ℕ) (name : Str) (k : ℕ) (e : k ≡ list_size) (l : is_list list ≡ true) where
  pub front_long : k ≡ length (take k list)
  front_long = let h = list_long list l in front_size k list (omega arith)

  pub front_asks : accepted ≡ judged_name name → ListAsks (take k list) name
  front_asks j =
      record {
        list = subst IsList (ap (λ (x : ℕ). take x list) (sym e)) (list_facts list l);
        size = sym front_long ∙ e;
        letters = sound_letters name (accepted_sound name (sym j));
      }

  pub front_unlisted : accepted ≡ judged_name name → (r : Bool) → Decides (look (rows_of (take k list)) (start_of (take k list)) name ≡ []) r → r ≡ none? (phones_for (words_of list) name)
  front_unlisted j r d = unlisted_is (take k list) name (front_asks j) r d ∙ ap (λ (x : ℕ). none? (phones_for (take x list) name)) e

pub removal_refused : (list : List ℕ) (name : Str) (n q : ℕ) → is_list list ≡ true → declined n q ≡ judged_name name → declined n q ≡ judged list (Remove name)
removal_refused list name n q l e = ap (λ (r : Reply). unless r (judged_listed (phones_for (words_of list) name))) e ∙ list_passed list (Remove name) l

pub removal_judged : (list : List ℕ) (name : Str) (r b : Bool) → is_list list ≡ true → accepted ≡ judged_name name → r ≡ none? (phones_for (words_of list) name) → r ≡ b → cond b (declined 18 0) accepted ≡ judged list (Remove name)
removal_judged list name r b l e g h =
    ap (λ (b : Bool). cond b (declined 18 0) accepted) (sym h ∙ g) ∙ (ap (λ (r : Reply). unless r (judged_listed (phones_for (words_of list) name))) e ∙ list_passed list (Remove name) l)

-- ---- what a change that is past the refusals asks

unless_left : (r x : Reply) → unless r x ≡ accepted → r ≡ accepted
unless_left accepted x e = refl
unless_left (declined n p) x e = e

unless_right : (r x : Reply) → unless r x ≡ accepted → x ≡ accepted
unless_right accepted x e = e
unless_right (declined n p) x e = never_accepted e

yes_accepted : (b : Bool) (n p : ℕ) → cond b accepted (declined n p) ≡ accepted → b ≡ true
yes_accepted true n p e = refl
yes_accepted false n p e = never_accepted e

no_accepted : (b : Bool) (n p : ℕ) → cond b (declined n p) accepted ≡ accepted → b ≡ false
no_accepted true n p e = never_accepted e
no_accepted false n p e = refl

module _ (list : List ℕ) (c : Change) (e : accepted ≡ judged list c) where
  past_list : is_list list ≡ true
  unfolding judged
  past_list = yes_accepted (is_list list) 17 0 (unless_left (judged_list list) (judged_change (phones_for (words_of list)) c) (sym e))

  past_all : judged_change (phones_for (words_of list)) c ≡ accepted
  unfolding judged
  past_all = unless_right (judged_list list) (judged_change (phones_for (words_of list)) c) (sym e)

-- the phones of an entry
phone_bytes : (p : Str) → all_from max_phone p ≡ true → (k : ℕ) → k < length p → (0 < get_or p k 0) × (get_or p k 0 < 256)
phone_bytes [] h k l = absurd (not-suc-le-zero l)
phone_bytes (x ∷ p) h zero l =
    let r = and_r (leb 1 x) (leb x max_phone && all_from max_phone p) h in
    let a = leb-true 1 x (and_l (leb 1 x) (leb x max_phone && all_from max_phone p) h) in
    let b = leb-true x max_phone (and_l (leb x max_phone) (all_from max_phone p) r) in
    (omega arith, omega arith)
phone_bytes (x ∷ p) h (suc k) l = phone_bytes p (and_r (leb x max_phone) (all_from max_phone p) (and_r (leb 1 x) (leb x max_phone && all_from max_phone p) h)) k (omega arith)

entry_bytes : (name p : Str) → good_entry name p ≡ true → (0 < length name) × Bytes p
unfolding good_entry
entry_bytes name p h =
    let r = and_r (ltb 0 (length name)) (ltb 0 (length p) && (leb (length p) max_listed_phones && all_from max_phone p)) h in
    let s = and_r (ltb 0 (length p)) (leb (length p) max_listed_phones && all_from max_phone p) r in
    let t = and_r (leb (length p) max_listed_phones) (all_from max_phone p) s in (
      ltb-true 0 (length name) (and_l (ltb 0 (length name)) (ltb 0 (length p) && (leb (length p) max_listed_phones && all_from max_phone p)) h),
      record {
        few = leb-true (length p) max_listed_phones (and_l (leb (length p) max_listed_phones) (all_from max_phone p) s);
        sounded = λ k l. (phone_bytes p t k l).0;
        bytes = λ k l. (phone_bytes p t k l).1;
      },
    )

pub addition_asks : (list : List ℕ) (name p : Str) → accepted ≡ judged list (Add name p) → ChangeAsks list name p
unfolding good_entry
addition_asks list name p e =
    let a = past_all list (Add name p) e in
    let s = accepted_sound name (unless_left (judged_name name) (judged_entry name p) a) in
    let b = entry_bytes name p (yes_accepted (good_entry name p) 17 0 (unless_right (judged_name name) (judged_entry name p) a)) in
    record { is = past_list list (Add name p) e; some = b.0; few = s.short; letters = sound_letters name s; phones = b.1 }

-- the empty name is not listed
listed_some : (ws : List ℕ) (name : Str) → IsList ws → none? (phones_for ws name) ≡ false → 0 < length name
unfolding phones_for
listed_some ws [] l h = clash (ap (λ (p : Str). none? (unpack p)) l.lettered ∙ ap none? unpack_none) h
listed_some ws (c ∷ name) l h = omega arith

pub removal_asks : (list : List ℕ) (name : Str) → accepted ≡ judged list (Remove name) → ChangeAsks list name []
removal_asks list name e =
    let a = past_all list (Remove name) e in
    let i = past_list list (Remove name) e in
    let s = accepted_sound name (unless_left (judged_name name) (judged_listed (phones_for (words_of list) name)) a) in
    let h = no_accepted (none? (phones_for (words_of list) name)) 18 0 (unless_right (judged_name name) (judged_listed (phones_for (words_of list) name)) a) in
    record { is = i; some = listed_some (words_of list) name (list_facts list i) h; few = s.short; letters = sound_letters name s; phones = none_bytes }

-- ---- all that a call gives

pub call_refused : (list : List ℕ) (c : Change) (n p : ℕ) → declined n p ≡ judged list c → Changed c list list (declined n p)
unfolding judged
call_refused list c n p e =
    record {
      bad = λ h. e ∙ ap (λ (b : Bool). unless (cond b accepted (declined 17 0)) (judged_change (phones_for (words_of list)) c)) h;
      good = λ h.
          let g : declined n p ≡ judged_change (phones_for (words_of list)) c = e ∙ ap (λ (b : Bool). unless (cond b accepted (declined 17 0)) (judged_change (phones_for (words_of list)) c)) h in
          record { fits = false; limits = λ o. never_accepted (g ∙ o); answer = ap (λ (r : Reply). unless r (declined 19 0)) g };
      list = λ z. never_accepted z;
      says = λ z. never_accepted z;
      rest = refl;
      kept = λ ne. refl;
    }

pub call_changed : (list : List ℕ) (c : Change) (list' : List ℕ) (reply : Reply) → accepted ≡ judged list c → Limited (after_change (phones_for (words_of list)) c) list list' reply → Changed c list list' reply
call_changed list c list' reply e l =
    record {
      bad = λ h. clash (past_list list c e) h;
      good = λ h. record {
        fits = l.fits;
        limits = λ o. l.limits;
        answer = l.answer ∙ ap (λ (r : Reply). unless r (cond l.fits accepted (declined 19 0))) (sym (past_all list c e));
      };
      list = l.list;
      says = l.says;
      rest = l.rest;
      kept = l.kept;
    }
