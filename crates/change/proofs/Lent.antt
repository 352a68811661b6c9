-- A change of the words of a lent list: its answer by the limits, and the list after it.
-- Assumes nothing.
use mathlib.Core.Path.{◌≡◌, refl, sym, ap, ◌∙◌, subst}
use Prim.Native.Nat.{ℕ, ◌+◌, ◌≤◌}
use native.Mathlib.Omega.{arith}
use mathlib.Core.Bool.{Bool, true, false, cond}
use mathlib.Core.List.{List, ◌++◌}
use lib.ListN.{length, take, drop, take-append-drop}
use lib.Seq.{length-take-le, length_front, take_at, drop_at}
use Rattle.rules.specs.Refusals.{accepted, declined}
use Rattle.automaton.specs.Automaton.{Str, changed}
use Rattle.minimality.specs.Judging.{Decides}
use Rattle.exceptions.specs.Layout.{list_size, words_of, phones_for}
use Rattle.exceptions.specs.Judging.{IsList, is_list, Says}
use Rattle.exceptions.proofs.Decided.{list_long, list_facts, facts_list}
use Rattle.change.specs.Change.{Within}
use Rattle.change.specs.Steps.{PhonesAsk, Relisted, ChangeAsks, Limited}

pub never_accepted {ℓ} : {A : Type ℓ} {n p : ℕ} → declined n p ≡ accepted → A
never_accepted e = let z : ◌≡◌ {A = ℕ} 0 1 = cc in absurd (omega arith)

-- k is the size of a list: the literal of the code
module _ (list : List ℕ) (name p : Str) (k : ℕ) (e : k ≡ list_size) (a : ChangeAsks list name p) where
  pub list_room : k ≤ length list
  list_room = let h = list_long list a.is in omega arith

  pub words_long : length (take k list) ≡ k
  words_long = length-take-le k list list_room

  words : words_of list ≡ take k list
  words = ap (λ (x : ℕ). take x list) (sym e)

  pub words_ask : PhonesAsk (take k list) name p
  words_ask =
      record {
        list = subst IsList words (list_facts list a.is);
        size = words_long ∙ e;
        some = a.some;
        few = a.few;
        letters = a.letters;
        phones = a.phones;
      }

  module _ (w : List ℕ) (l : length w ≡ length (take k list)) where
    after : List ℕ
    after = w ++ drop k list

    after_words : words_of after ≡ w
    unfolding after
    after_words = take_at w (drop k list) list_size (l ∙ (words_long ∙ e))

    after_rest : drop list_size after ≡ drop list_size list
    unfolding after
    after_rest = drop_at w (drop k list) list_size (l ∙ (words_long ∙ e)) ∙ ap (λ (x : ℕ). drop x list) e

    after_long : list_size ≤ length after
    unfolding after
    after_long = let f = length_front list w k l in let h = list_long list a.is in omega arith

    limits : (b : Bool) → Relisted (take k list) name p w b → Decides (Within (changed name p (phones_for (words_of list)))) b
    limits b r = subst (λ (x : List ℕ). Decides (Within (changed name p (phones_for x))) b) (sym words) r.limits

    pub limited : (b : Bool) → Relisted (take k list) name p w b → b ≡ true → Limited (changed name p (phones_for (words_of list))) list (w ++ drop k list) accepted
    unfolding after
    limited b r o =
        let is : is_list (w ++ drop k list) ≡ true = facts_list (w ++ drop k list) after_long (subst IsList (sym after_words) (r.list o)) in
        let says : Says (w ++ drop k list) (changed name p (phones_for (words_of list))) = λ v t.
        ap (λ (x : List ℕ). phones_for x v) after_words ∙ (r.says o v t ∙ ap (λ (x : List ℕ). changed name p (phones_for x) v) (sym words)) in
        record {
          fits = b;
          limits = limits b r;
          answer = ap (λ (t : Bool). cond t accepted (declined 19 0)) (sym o);
          list = λ z. is;
          says = λ z. says;
          rest = after_rest;
          kept = λ ne. absurd (ne refl);
        }

    pub not_limited : (b : Bool) → Relisted (take k list) name p w b → b ≡ false → Limited (changed name p (phones_for (words_of list))) list (w ++ drop k list) (declined 19 0)
    unfolding after
    not_limited b r o =
        record {
          fits = b;
          limits = limits b r;
          answer = ap (λ (t : Bool). cond t accepted (declined 19 0)) (sym o);
          list = λ z. never_accepted z;
          says = λ z. never_accepted z;
          rest = after_rest;
          kept = λ ne. ap (λ (x : List ℕ). x ++ drop k list) (r.kept o) ∙ take-append-drop k list;
        }
