-- Laws of coded changes and of a replay's turns.
-- Assumes nothing.
use Prim.Native.Nat.{ℕ, suc, ◌+◌, ◌-◌, ◌*◌, ◌≤◌, ◌<◌, min}
use mathlib.Core.Path.{◌≡◌, refl, sym, ap, ◌∙◌, subst}
use mathlib.Core.Bool.{true}
use mathlib.Core.List.{List, [], ◌∷◌, ◌++◌, append_assoc, append-nil}
use native.Mathlib.Nat.{add-zero}
use native.Mathlib.Omega.{arith}
use borrow.Author.Tests.{eq-eqb, ne_eqb}
use lib.ListN.{length, get_or, take, drop, set, length-set, length-drop, length-append, drop_of_length-le}
use lib.Seq.{drop-drop, take_all, get_or-drop}
use Rattle.rules.specs.Refusals.{Reply, reply_code, reply_place}
use Rattle.automaton.proofs.Tests.{by_less}
use Rattle.exceptions.specs.Judging.{is_list, Says}
use Rattle.change.specs.Change.{Change, Changed}
use Rattle.change.specs.Change.Change.{Add, Remove}
use Rattle.change_history.specs.Code.{change_words, change_of, coded_change, coded_changes}
use Rattle.change_history.specs.Replay.{turns, nothing, ReplayedAll}
use Rattle.change_history.proofs.Answers.{none_yet, one_more}

-- ---- the change of a kind

pub change_add : (kind : ℕ) (name p list list' : List ℕ) (r : Reply) → kind ≡ 0 → Changed (Add name p) list list' r → Changed (change_of kind name p) list list' r
change_add kind name p list list' r k d = rw (eq-eqb _ _ k) d

pub change_remove : (kind : ℕ) (name p list list' : List ℕ) (r : Reply) → (kind ≡ 0 → ⊥) → Changed (Remove name) list list' r
    → Changed (change_of kind name p) list list' r
change_remove kind name p list list' r k d = rw (ne_eqb _ _ k) d

-- ---- the text that a change takes, where it may be too short: n bytes from `from` on end at `to`

module _ (n from to : ℕ) (text : List ℕ) (h : from ≤ length text) (e : to ≡ from + min n (length text - from)) where
  pub cut_inside : to ≤ length text
  cut_inside = omega arith

  pub cut_take : take (to - from) (drop from text) ≡ take n (drop from text)
  cut_take =
      by_less (length text - from) n
      (λ l. take_all (to - from) (drop from text) (omega (arith, length-drop from text)) ∙ sym (take_all n (drop from text) (omega (arith, length-drop from text))))
      (λ l. let q : to - from ≡ n = omega arith in ap (λ (k : ℕ). take k (drop from text)) q)

  pub cut_drop : drop n (drop from text) ≡ drop to text
  cut_drop =
      by_less (length text - from) n
      (λ l. drop_of_length-le (drop from text) {i = n} (omega (arith, length-drop from text)) ∙ sym (drop_of_length-le text {i = to} (omega arith)))
      (λ l. let q : from + n ≡ to = omega arith in drop-drop n from text ∙ ap (λ (k : ℕ). drop k text) q)

-- ---- the change at word `at` and byte `from`, whose letters end at `middle` and whose phones end at `end`

module _ (code text : List ℕ) (at from middle end : ℕ) (h : from ≤ length text)
    (m : middle ≡ from + min (get_or code (at + 1) 0) (length text - from)) (e : end ≡ middle + min (get_or code (at + 2) 0) (length text - middle)) where
  kind_at : get_or (drop at code) 0 0 ≡ get_or code at 0
  kind_at = get_or-drop at code 0 0 ∙ ap (λ (k : ℕ). get_or code k 0) (add-zero at)

  inside : middle ≤ length text
  inside = cut_inside (get_or code (at + 1) 0) from middle text h m

  name_past : drop (get_or (drop at code) 1 0) (drop from text) ≡ drop middle text
  name_past = ap (λ (k : ℕ). drop k (drop from text)) (get_or-drop at code 1 0) ∙ cut_drop (get_or code (at + 1) 0) from middle text h m

  pub change_at : coded_change (drop at code) (drop from text) ≡ change_of (get_or code at 0) (take (middle - from) (drop from text)) (take (end - middle) (drop middle text))
  change_at =
      rw (kind_at, name_past, get_or-drop at code 1 0, get_or-drop at code 2 0, cut_take (get_or code (at + 1) 0) from middle text h m, cut_take (get_or code (at + 2) 0) middle end text inside e)

  pub text_past : drop (get_or (drop at code) 2 0) (drop (get_or (drop at code) 1 0) (drop from text)) ≡ drop end text
  text_past =
      ap (drop (get_or (drop at code) 2 0)) name_past
      ∙ (ap (λ (k : ℕ). drop k (drop middle text)) (get_or-drop at code 2 0) ∙ cut_drop (get_or code (at + 2) 0) middle end text inside e)

  pub changes_on : (n i : ℕ) → i < n
      → coded_changes (n - i) (drop at code) (drop from text) ≡ coded_change (drop at code) (drop from text) ∷ coded_changes (n - (i + 1)) (drop (at + change_words) code) (drop end text)
  changes_on n i l =
      let q : n - i ≡ suc (n - (i + 1)) = omega arith in
      rw (q, text_past, ← drop-drop change_words at code)

-- ---- what holds after i turns, at the word `at` and the byte `from`: the claim over the changes done, and that those to come make up the rest

pub record Going (code text list₀ answers₀ places₀ : List ℕ) (n : ℕ) (list answers places : List ℕ) (i at from : ℕ) : Type 0 where
  pub low : i ≤ n
  pub word : at ≡ i * change_words
  pub byte : from ≤ length text
  pub «list_long» : length list ≡ length list₀
  pub «answers-long» : length answers ≡ length answers₀
  pub «places-long» : length places ≡ length places₀
  pub done : List Change
  pub count : length done ≡ i
  pub whole : coded_changes n code text ≡ done ++ coded_changes (n - i) (drop at code) (drop from text)
  pub all : ReplayedAll done list₀ answers₀ places₀ list answers places

pub going_start : (code text list answers places : List ℕ) (n : ℕ) → is_list list ≡ true → Says list nothing
    → Going code text list answers places n list answers places 0 0 0
going_start code text list answers places n h s =
    let z : n - 0 ≡ n = omega arith in
    record {
      low = omega arith;
      word = omega arith;
      byte = omega arith;
      «list_long» = refl;
      «answers-long» = refl;
      «places-long» = refl;
      done = [];
      count = refl;
      whole = rw z;
      all = record { claim = none_yet list answers places h s; rest = refl };
    }

module _ (code text list₀ answers₀ places₀ : List ℕ) (n : ℕ) (list answers places : List ℕ) (i at from : ℕ)
    (g : Going code text list₀ answers₀ places₀ n list answers places i at from) where
  pub going_on : (middle end : ℕ) (r : Reply) (list' : List ℕ) (v p : ℕ) → i < n → n ≤ turns (length code) (length answers₀) (length places₀)
      → middle ≡ from + min (get_or code (at + 1) 0) (length text - from) → end ≡ middle + min (get_or code (at + 2) 0) (length text - middle)
      → length list' ≡ length list
      → Changed (change_of (get_or code at 0) (take (middle - from) (drop from text)) (take (end - middle) (drop middle text))) list list' r
      → v ≡ reply_code r → p ≡ reply_place r
      → Going code text list₀ answers₀ places₀ n list' (set answers i v) (set places i p) (i + 1) (at + change_words) end
  going_on middle end r list' v p h hn m e l d ve pe =
      let c = coded_change (drop at code) (drop from text) in
      let q : Changed c list list' r = rw (change_at code text at from middle end g.byte m e) d in
      record {
        low = omega arith;
        word = omega (arith, g.word);
        byte = omega (arith, g.byte);
        «list_long» = l ∙ g.«list_long»;
        «answers-long» = length-set answers i v ∙ g.«answers-long»;
        «places-long» = length-set places i p ∙ g.«places-long»;
        done = g.done ++ (c ∷ []);
        count = length-append g.done (c ∷ []) ∙ ap (λ (k : ℕ). k + 1) g.count;
        whole =
            g.whole ∙ (ap (λ (x : List Change). g.done ++ x) (changes_on code text at from middle end g.byte m e n i h)
            ∙ sym (append_assoc g.done (c ∷ []) (coded_changes (n - (i + 1)) (drop (at + change_words) code) (drop end text))));
        all = record {
          claim = one_more g.done answers₀ places₀ list answers places g.all.claim c list' r q i v p g.count (omega arith) (omega arith) ve pe;
          rest = q.rest ∙ g.all.rest;
        };
      }

  pub going_end : n ≤ i → ReplayedAll (coded_changes n code text) list₀ answers₀ places₀ list answers places
  going_end h =
      let z : n - i ≡ 0 = omega arith in
      let w : coded_changes n code text ≡ g.done ++ [] = rw z at g.whole in
      let q : g.done ≡ coded_changes n code text = sym (w ∙ append-nil g.done) in
      subst (λ (cs : List Change). ReplayedAll cs list₀ answers₀ places₀ list answers places) q g.all
