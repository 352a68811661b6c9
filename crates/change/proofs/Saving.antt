-- Free words saved and put back: the words are as before.
-- Assumes nothing.
use mathlib.Core.Path.{◌≡◌, sym, ap, ◌∙◌}
use Prim.Native.Nat.{ℕ, ◌+◌, ◌-◌, ◌≤◌, ◌<◌}
use native.Mathlib.Omega.{arith}
use mathlib.Core.List.{List}
use lib.ListN.{get_or}
use lib.Seq.{ext_get_or}
use Rattle.automaton.proofs.Tests.{by_less}
use Rattle.states.specs.States.{Written, copy_of}
use Rattle.change.specs.Steps.{Saved, Kept, Restored}

pub saved_of : (ws : List ℕ) (n end : ℕ) (s₀ s₁ s₂ : List ℕ) → Written (copy_of ws (n + 2)) 0 65 s₀ s₁ → Written (copy_of ws end) 65 5590 s₁ s₂ → Saved ws n end s₂
saved_of ws n end s₀ s₁ s₂ a b =
    record {
      offsets = λ j h. let z : j ≡ 0 + j = omega arith in b.before j h ∙ (ap (λ (x : ℕ). get_or s₁ x 0) z ∙ a.done j h);
      cells = λ j h. b.done j h;
    }

pub restored_of : (ws : List ℕ) (n end : ℕ) (s w₁ w₂ : List ℕ) → n + 67 ≤ end → Written (copy_of s 0) (n + 2) 65 ws w₁ → Written (copy_of s 65) end 5590 w₁ w₂ → Restored ws n end s w₂
restored_of ws n end s w₁ w₂ l a b =
    record {
      offsets = λ j h. let z : 0 + j ≡ j = omega arith in b.before (n + 2 + j) (omega arith) ∙ (a.done j h ∙ ap (λ (x : ℕ). get_or s x 0) z);
      cells = λ j h. b.done j h;
      kept = record {
        low = λ x h. b.before x (omega arith) ∙ a.before x h;
        mid = λ x h g. b.before x g ∙ a.after x (omega arith);
        high = λ x h. b.after x h ∙ a.after x (omega arith);
        long = b.long ∙ a.long;
      };
    }

-- x is one of the words from a on, fewer than k after it
from_on : (a x : ℕ) → a ≤ x → a + (x - a) ≡ x
from_on a x h = omega arith

less_on : (a x k : ℕ) → a ≤ x → x < a + k → x - a < k
less_on a x k h l = omega arith

pub restored_same : (ws : List ℕ) (n end : ℕ) (s w ws' : List ℕ) → Saved ws n end s → Kept ws n end w → Restored w n end s ws' → ws' ≡ ws
restored_same ws n end s w ws' a k r =
    ext_get_or 0 ws' ws (r.kept.long ∙ k.long)
    (λ x b.
    by_less x (n + 2) (λ h. r.kept.low x h ∙ k.low x h)
    (λ h. by_less x (n + 67)
    (λ g.
    let z = from_on (n + 2) x h in
    let j = less_on (n + 2) x 65 h (omega arith) in
    ap (λ (t : ℕ). get_or ws' t 0) (sym z) ∙ (r.offsets (x - (n + 2)) j ∙ (a.offsets (x - (n + 2)) j ∙ ap (λ (t : ℕ). get_or ws t 0) z)))
    (λ g. by_less x end (λ l. r.kept.mid x g l ∙ k.mid x g l)
    (λ l. by_less x (end + 5590)
    (λ o.
    let z = from_on end x l in
    let j = less_on end x 5590 l o in
    ap (λ (t : ℕ). get_or ws' t 0) (sym z) ∙ (r.cells (x - end) j ∙ (a.cells (x - end) j ∙ ap (λ (t : ℕ). get_or ws t 0) z)))
    (λ o. r.kept.high x o ∙ k.high x o)))))
