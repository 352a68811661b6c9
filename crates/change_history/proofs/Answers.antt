-- One change more: the answer to a change depends on what the list says of sound names alone, so that the claim over a list of changes goes on
-- from one change to the next.
-- Assumes nothing.
use mathlib.Core.Path.{◌≡◌, refl, sym, ap, ◌∙◌}
use Prim.Native.Nat.{ℕ, ◌<◌}
use mathlib.Core.Bool.{true, cond}
use mathlib.Core.List.{List, [], ◌∷◌, ◌++◌}
use native.Mathlib.Omega.{arith}
use lib.ListN.{length, set}
use Rattle.rules.specs.Refusals.{Reply, accepted, declined, reply_code, reply_place, unless}
use Rattle.rules.specs.Names.{judged_name}
use Rattle.rules.proofs.Memory.{snoc_by}
use Rattle.rules.proofs.Names.{Judgement, sound, refuses, judgement}
use Rattle.automaton.specs.Automaton.{Str, Letters, same}
use Rattle.exceptions.specs.Layout.{words_of, phones_for}
use Rattle.exceptions.specs.Judging.{is_list, Says}
use Rattle.exceptions.proofs.Names.{sound_letters}
use Rattle.exceptions.proofs.Worded.{list_worded}
use Rattle.change.specs.Change.{Change, judged_listed, judged_change, after_change, Within, Answers, Changed}
use Rattle.change.specs.Change.Change.{Add, Remove}
use Rattle.change.proofs.Automata.{within_ext}
use Rattle.change_history.specs.Replay.{after_reply, AllAnswered, said_after, nothing, FromEmpty}

-- ---- lists that say the same of every name of letters

abbrev Agree : (Str → Str) → (Str → Str) → Type 0
Agree m m' = (w : Str) → Letters w → m w ≡ m' w

after_ext : (m m' : Str → Str) → Agree m m' → (c : Change) → Agree (after_change m c) (after_change m' c)
after_ext m m' e (Add name p) w l = ap (λ (x : Str). cond (same w name) p x) (e w l)
after_ext m m' e (Remove name) w l = ap (λ (x : Str). cond (same w name) [] x) (e w l)

judged_ext : (m m' : Str → Str) → Agree m m' → (c : Change) → judged_change m c ≡ judged_change m' c
judged_ext m m' e (Add name p) = refl
judged_ext m m' e (Remove name) = by (judgement name)
  where
    by : Judgement name → unless (judged_name name) (judged_listed (m name)) ≡ unless (judged_name name) (judged_listed (m' name))
    by (sound s) = ap (λ (x : Str). unless (judged_name name) (judged_listed x)) (e name (sound_letters name s))
    by (refuses n p h q) = rw q

within_after : (m m' : Str → Str) → Agree m m' → (c : Change) → Within (after_change m c) → Within (after_change m' c)
within_after m m' e c = within_ext (after_change m c) (after_change m' c) (after_ext m m' e c)

pub answers_ext : (m m' : Str → Str) → Agree m m' → (c : Change) (r : Reply) → Answers m c r → Answers m' c r
answers_ext m m' e c r a = record {
  fits = a.fits;
  limits = λ j.
      let d = a.limits (judged_ext m m' e c ∙ j) in
      record { yes = λ t. within_after m m' e c (d.yes t); no = λ t h. d.no t (within_after m' m (λ w l. sym (e w l)) c h) };
  answer = a.answer ∙ ap (λ (x : Reply). unless x (cond a.fits accepted (declined 19 0))) (judged_ext m m' e c);
}

-- ---- one change at the end

answered_more : (m : Str → Str) (cs : List Change) (rs : List Reply) (c : Change) (r : Reply) → AllAnswered m cs rs → Answers (said_after m cs rs) c r
    → AllAnswered m (cs ++ (c ∷ [])) (rs ++ (r ∷ []))
answered_more m [] [] c r a h = (h, tt)
answered_more m [] (r' ∷ rs) c r a h = absurd a
answered_more m (c' ∷ cs) [] c r a h = absurd a
answered_more m (c' ∷ cs) (r' ∷ rs) c r a h = (a.0, answered_more (after_reply m c' r') cs rs c r a.1 h)

said_more : (m : Str → Str) (cs : List Change) (rs : List Reply) (c : Change) (r : Reply) → AllAnswered m cs rs
    → said_after m (cs ++ (c ∷ [])) (rs ++ (r ∷ [])) ≡ after_reply (said_after m cs rs) c r
said_more m [] [] c r a = refl
said_more m [] (r' ∷ rs) c r a = absurd a
said_more m (c' ∷ cs) [] c r a = absurd a
said_more m (c' ∷ cs) (r' ∷ rs) c r a = said_more (after_reply m c' r') cs rs c r a.1

-- an answer for each change
pub answered_length : (m : Str → Str) (cs : List Change) (rs : List Reply) → AllAnswered m cs rs → length rs ≡ length cs
answered_length m [] [] a = refl
answered_length m [] (r ∷ rs) a = absurd a
answered_length m (c ∷ cs) [] a = absurd a
answered_length m (c ∷ cs) (r ∷ rs) a = let e = answered_length (after_reply m c r) cs rs a.1 in omega arith

-- ---- what a changed list says

pub never : {n p : ℕ} → declined n p ≡ accepted → ⊥
never e = let z : ◌≡◌ {A = ℕ} 0 1 = cc in omega arith

-- a list that says m, changed with the answer r
says_more : (m : Str → Str) (c : Change) (before after : List ℕ) (r : Reply) → Says before m → Changed c before after r → Says after (after_reply m c r)
says_more m c before after accepted s d w l = d.says refl w l ∙ after_ext (phones_for (words_of before)) m s c w l
says_more m c before after (declined n p) s d w l = ap (λ (x : List ℕ). phones_for (words_of x) w) (d.kept never) ∙ s w l

list_more : (c : Change) (before after : List ℕ) (r : Reply) → is_list before ≡ true → Changed c before after r → is_list after ≡ true
list_more c before after accepted h d = d.list refl
list_more c before after (declined n p) h d = ap is_list (d.kept never) ∙ h

-- ---- the claim

-- before any change
pub none_yet : (list answers places : List ℕ) → is_list list ≡ true → Says list nothing → FromEmpty [] answers places list answers places
none_yet list answers places h s = record {
  replies = [];
  answered = tt;
  codes = refl;
  spots = refl;
  is = h;
  says = s;
  minimal = (list_worded list h).minimal;
}

-- after one more, whose answer is stored
pub one_more : (cs : List Change) (answers₀ places₀ list answers places : List ℕ) → FromEmpty cs answers₀ places₀ list answers places
    → (c : Change) (list' : List ℕ) (r : Reply) → Changed c list list' r → (i v p : ℕ) → length cs ≡ i → i < length answers₀ → i < length places₀
    → v ≡ reply_code r → p ≡ reply_place r → FromEmpty (cs ++ (c ∷ [])) answers₀ places₀ list' (set answers i v) (set places i p)
one_more cs answers₀ places₀ list answers places f c list' r d i v p e h k ve pe =
    let m = said_after nothing cs f.replies in
    let n : length f.replies ≡ i = answered_length nothing cs f.replies f.answered ∙ e in
    let t : is_list list' ≡ true = list_more c list list' r f.is d in
    record {
      replies = f.replies ++ (r ∷ []);
      answered = answered_more nothing cs f.replies c r f.answered (answers_ext (phones_for (words_of list)) m f.says c r (d.good f.is));
      codes = snoc_by reply_code f.replies r answers₀ answers i v f.codes n h ve;
      spots = snoc_by reply_place f.replies r places₀ places i p f.spots n k pe;
      is = t;
      says = λ w l. says_more m c list list' r f.says d w l ∙ ap (λ (g : Str → Str). g w) (sym (said_more nothing cs f.replies c r f.answered));
      minimal = (list_worded list' t).minimal;
    }
