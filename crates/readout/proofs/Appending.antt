-- Texts written one after another are the text of both.
-- Assumes nothing.
use mathlib.Core.Path.{◌≡◌, refl, sym, ap, ◌∙◌, subst}
use Prim.Native.Nat.{ℕ, ◌+◌, ◌-◌, ◌≤◌, ◌<◌}
use native.Mathlib.Omega.{arith}
use mathlib.Core.List.{List, [], ◌∷◌, ◌++◌}
use lib.ListN.{length, get_or, set, length-append, length-set, get_or-append}
use lib.Seq.{get_or-append-add, get_or-set_same, get_or-set_other}
use Rattle.rules.specs.Memory.{over}
use Rattle.automaton.proofs.Tests.{by_less}
use Rattle.states.specs.States.{Written}
use Rattle.exceptions.proofs.Looking.{over_written}
use Rattle.readout.specs.Texts.{text_of, Wrote}

pub wrote_none : (at : ℕ) (out : List ℕ) → Wrote [] at out out at
wrote_none at out = record { next = omega arith; long = refl; text = λ h. record { done = λ j l. absurd (omega arith); before = λ x l. refl; after = λ x l. refl; long = refl } }

pub wrote_is : (s t : List ℕ) (at : ℕ) (out out' : List ℕ) (r : ℕ) → s ≡ t → Wrote s at out out' r → Wrote t at out out' r
wrote_is s t at out out' r e w = subst (λ (x : List ℕ). Wrote x at out out' r) e w

pub wrote_at : (t : List ℕ) (at : ℕ) (out out' : List ℕ) (r r' : ℕ) → r ≡ r' → Wrote t at out out' r → Wrote t at out out' r'
wrote_at t at out out' r r' e w = subst (Wrote t at out out') e w

pub wrote_append : (s t : List ℕ) (at : ℕ) (out m out' : List ℕ) (r r' : ℕ) → Wrote s at out m r → Wrote t r m out' r' → Wrote (s ++ t) at out out' r'
wrote_append s t at out m out' r r' a b =
    let la = length-append s t in
    let ra = a.next in
    let rb = b.next in
    let lm = a.long in
    record {
      next = omega arith;
      long = b.long ∙ a.long;
      text = λ h.
          let u = a.text (omega arith) in
          let v = b.text (omega arith) in
          record {
            done = λ j l.
                by_less j (length s)
                (λ h. v.before (at + j) (omega arith) ∙ (u.done j h ∙ sym (get_or-append s t 0 j h)))
                (λ h.
                let e : j ≡ length s + (j - length s) = omega arith in
                let g : at + j ≡ r + (j - length s) = omega arith in
                ap (λ (x : ℕ). get_or out' x 0) g ∙ (v.done (j - length s) (omega arith) ∙ (sym (get_or-append-add s t (j - length s) 0) ∙ ap (λ (x : ℕ). get_or (s ++ t) x 0) (sym e))));
            before = λ x l. v.before x (omega arith) ∙ u.before x l;
            after = λ x l. v.after x (omega arith) ∙ u.after x (omega arith);
            long = b.long ∙ a.long;
          };
    }

pub wrote_one : (x at : ℕ) (out : List ℕ) → Wrote (x ∷ []) at out (set out at x) (at + 1)
wrote_one x at out =
    record {
      next = omega arith;
      long = length-set out at x;
      text = λ h.
          record {
            done = λ j l.
                let e : at + j ≡ at = omega arith in
                let z : 0 ≡ j = omega arith in
                ap (λ (v : ℕ). get_or (set out at x) v 0) e ∙ (get_or-set_same out at x 0 (omega arith) ∙ ap (λ (v : ℕ). get_or (x ∷ []) v 0) z);
            before = λ v l. get_or-set_other out at v x 0 (omega arith);
            after = λ v l. get_or-set_other out at v x 0 (omega arith);
            long = length-set out at x;
          };
    }

pub wrote_copy : (t : List ℕ) (v : ℕ → ℕ) (at k : ℕ) (out out' : List ℕ) → Written v at k out out' → length t ≡ k → ((j : ℕ) → j < k → get_or t j 0 ≡ v j) → Wrote t at out out' (at + k)
wrote_copy t v at k out out' w e f =
    record {
      next = omega arith;
      long = w.long;
      text = λ h. record { done = λ j l. w.done j (omega arith) ∙ sym (f j (omega arith)); before = w.before; after = λ x l. w.after x (omega arith); long = w.long };
    }

-- a text for which there is no room is measured
pub wrote_length : (t : List ℕ) (at : ℕ) (out : List ℕ) (r : ℕ) → r ≡ at + length t → length out < r → Wrote t at out out r
wrote_length t at out r e h = record { next = e; long = refl; text = λ g. absurd (omega arith) }

-- a text at the front of the lent bytes
pub wrote_over : (t out out' : List ℕ) (r : ℕ) → Wrote t 0 out out' r → length t ≤ length out → out' ≡ over t out
wrote_over t out out' r w h = over_written t (text_of t) out out' h (w.text (omega arith)) (λ j l. refl)
