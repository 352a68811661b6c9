-- A replay from memory that was cleared: refused, it is kept; else it is the empty list, and the changes follow.
-- Assumes nothing.
use Prim.Native.Nat.{ℕ, ◌≤◌}
use mathlib.Core.Path.{◌≡◌, refl, sym, ap, ◌∙◌, subst}
use mathlib.Core.Bool.{true}
use mathlib.Core.List.{List}
use native.Mathlib.Omega.{arith}
use borrow.Author.Tests.{leb-true}
use lib.Dec.{leb}
use lib.ListN.{length, drop, set}
use lib.Seq.{drop-set-lt}
use Rattle.rules.specs.Refusals.{Reply, accepted, declined}
use Rattle.rules.proofs.Cases.{by_bool}
use Rattle.exceptions.specs.Layout.{list_size, startWord}
use Rattle.exceptions.specs.Judging.{is_list, Says}
use Rattle.exceptions.specs.Calls.{Emptied, emptying, emptied}
use Rattle.exceptions.proofs.Sizes.{size_is}
use Rattle.exceptions.proofs.Empty.{empty_list, empty_says}
use Rattle.change_history.specs.Code.{coded_changes}
use Rattle.change_history.specs.Replay.{turns, nothing, FromEmpty, Replayed, ReplayedAll}
use Rattle.change_history.proofs.Answers.{never}

-- memory that is accepted is long enough
accepted_long : (list : List ℕ) → (emptied list).reply ≡ accepted → list_size ≤ length list
unfolding emptied
accepted_long list e =
    by_bool (leb list_size (length list)) (λ u. leb-true list_size (length list) u) (λ u. absurd (never (rw u at e)))

-- memory that is refused is kept
refused_kept : (list : List ℕ) (n p : ℕ) → (emptied list).reply ≡ declined n p → (emptied list).list ≡ list
unfolding emptied
refused_kept list n p e =
    by_bool (leb list_size (length list)) (λ u. absurd (never (sym (rw u at e)))) (λ u. rw u)

-- what lies past the list's words is kept
rest_kept : (list : List ℕ) → drop list_size (emptied list).list ≡ drop list_size list
unfolding emptied startWord
rest_kept list =
    by_bool (leb list_size (length list))
    (λ u. rw u
    (drop-set-lt list_size (set (set list 0 4200) 1 4200) startWord 0 (omega (arith, size_is))
    ∙ (drop-set-lt list_size (set list 0 4200) 1 4200 (omega (arith, size_is)) ∙ drop-set-lt list_size list 0 4200 (omega (arith, size_is)))))
    (λ u. rw u)

module _ (list code text answers places list₁ : List ℕ) (a : Reply) (e : emptying a list₁ ≡ emptied list) where
  reply-is : a ≡ (emptied list).reply
  reply-is = ap (λ (o : Emptied). o.reply) e

  list_is : list₁ ≡ (emptied list).list
  list_is = ap (λ (o : Emptied). o.list) e

  pub short_kept : (n p : ℕ) → a ≡ declined n p → Replayed list code text answers places (declined n p) list₁ answers places
  short_kept n p q =
      let r : declined n p ≡ (emptied list).reply = sym q ∙ reply-is in
      let k : list₁ ≡ list = list_is ∙ refused_kept list n p (sym r) in
      record {
        answer = r;
        claim = λ u. absurd (never u);
        rest = ap (drop list_size) k;
        kept_list = λ u. k;
        kept_answers = λ u. refl;
        kept_places = λ u. refl;
      }

  -- memory that is accepted is the empty list
  pub long_empty : a ≡ accepted → (is_list list₁ ≡ true) × Says list₁ nothing
  long_empty q =
      let l = accepted_long list (sym reply-is ∙ q) in
      subst (λ (x : List ℕ). (is_list x ≡ true) × Says x nothing) (sym list_is) (empty_list list l, empty_says list l)

  pub long_enough : a ≡ accepted → (n : ℕ) → n ≡ turns (length code) (length answers) (length places) → (list' answers' places' : List ℕ)
      → ReplayedAll (coded_changes n code text) list₁ answers places list' answers' places'
      → Replayed list code text answers places accepted list' answers' places'
  long_enough q n t list' answers' places' d =
      record {
        answer = sym q ∙ reply-is;
        claim = λ u. subst (λ (k : ℕ). FromEmpty (coded_changes k code text) answers places list' answers' places') t d.claim;
        rest = d.rest ∙ (ap (drop list_size) list_is ∙ rest_kept list);
        kept_list = λ u. absurd (u refl);
        kept_answers = λ u. absurd (u refl);
        kept_places = λ u. absurd (u refl);
      }
